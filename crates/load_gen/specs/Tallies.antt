-- The figures that are told of the bytes that a session wrote, and of a list at its end.
use Rattle.std.specs.Prelude.{◌≡◌, ℕ, List, length, None, Result, Ok, Err}
use Rattle.std.specs.declared.alloc.AllocError.{AllocError}
use Rattle.client_api.specs.Answers.{ListedData}
use Rattle.client_api.specs.Lists.{IsListed}
use Rattle.edge_io.specs.Memory.{SinkState}
use Rattle.kube_meta.specs.Rows.{RowData}
use Rattle.list_rules.specs.declared.ask.ListAsk.{ListAsk}
use Rattle.rev_front.specs.Passes.{Pass}
use Rattle.rev_log.specs.Changes.{RevisionData}
use Rattle.select_all.specs.declared.selection.Meaning.TheVariants.{MostRecent}
use Rattle.load_gen.specs.Loads.{pods_of_load}
use Rattle.load_gen.specs.Replies.{AreReplies, AreCounted}
use Rattle.load_gen.specs.declared.figures.Figures.{Figures}

-- all pods of the namespace are asked for, at the newest revision
pub record IsWholeList (ask : ListAsk) : Type 0 where
  pub selection_is : ask.selection ≡ pods_of_load
  pub meaning_is : ask.meaning ≡ MostRecent
  pub limit_is : ask.limit ≡ 0
  pub after_is : ask.after ≡ None

-- and answered
abbrev pub IsWholeListed : List RowData → Pass RevisionData → ListedData → Pass RevisionData → Type 0
IsWholeListed base p listed q = (ask : ListAsk) × IsWholeList ask × IsListed base p ask listed q

-- the replies in the bytes are counted; the revision is the list's, and so is the number of items
pub record AreTallies (requests : ℕ) (written : List ℕ) (listed : ListedData) (f : Figures) : Type 0 where
  pub requests_is : f.requests ≡ requests
  pub counted : (codes : List ℕ) → AreReplies codes written → AreCounted codes f.ok f.refused
  pub revision : f.revision ≡ listed.rev
  pub items : f.items ≡ length listed.rows

-- where the session came to its end, and the list was answered
abbrev pub IsTallied : ℕ → Result SinkState AllocError → Result ListedData AllocError → Figures → Type 0
IsTallied requests (Ok sink) (Ok listed) f = AreTallies requests sink.written listed f
IsTallied requests (Ok sink) (Err memory) f = ⊥
IsTallied requests (Err memory) listed f = ⊥
