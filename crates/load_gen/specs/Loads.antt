-- What a load comes to: a session of a client of a new log over the drawn bytes, and the figures of it.
use Rattle.std.specs.Prelude.{◌≡◌, ℕ, List, [], ◌++◌, length, Some, Result, Ok, Err, codes, ⊤}
use Rattle.edge_io.specs.Sent.{Sent, IsSentOn, IsBrokenOff}
use Rattle.edge_io.specs.declared.clock.Reading.{Reading}
use Rattle.kube_meta.specs.Rows.{RowData}
use Rattle.kube_meta.specs.declared.resources.Resource.TheVariants.{Pods}
use Rattle.rev_front.specs.Passes.{Pass, end_from}
use Rattle.rev_log.specs.Changes.{RevisionData}
use Rattle.select_all.specs.Listings.{IsListing}
use Rattle.select_all.specs.declared.selection.Selection.{Selection}
use Rattle.up_api.specs.Sections.{log_of}
use Rattle.up_api.specs.Settings.{usual}
use Rattle.sess_turns.specs.Terms.{Terms}
use Rattle.sess_serve.specs.Session.{IsSession}
use Rattle.sess_serve.specs.declared.ends.SessionEnd.TheVariants.{Done}
use Rattle.load_gen.specs.Figures.{figure_lines}
use Rattle.sess_serve.specs.NewLogs.{new_pass, terms}
use Rattle.load_gen.specs.Replies.{codes_of, AreCounted}
use Rattle.load_gen.specs.Requests.{session_text}
use Rattle.load_gen.specs.declared.figures.Figures.{Figures}
use Rattle.load_gen.specs.declared.run.LoadNo.{LoadNo}
use Rattle.load_gen.specs.declared.run.LoadNo.TheVariants.{WriteFault, Memory}

-- a session over a source that has these bytes: it came to its end, and wrote those
pub record IsLoadServed (terms : Terms) (whole : Type 0) (p : Pass RevisionData) (session written : List ℕ) (q : Pass RevisionData) : Type 0 where
  pub taken : List ℕ
  pub left : List ℕ
  pub readings : List Reading
  pub parted : session ≡ taken ++ left
  pub served : IsSession terms whole p
      (record { taken = taken; written = written; readings = readings; read_fault = ⊥; write_fault = ⊥; left = Some left }) q Done

-- all pods of the namespace `load`, in which each request of a load is
abbrev pub pods_of_load : Selection
pods_of_load = record { resource = Pods; ns = Some (codes "load"); labels = []; fields = [] }

-- The figures of a session: its replies are counted; the revision is the end of its log, and the items are the pods of
-- the namespace that stand there.
pub record AreFigures (session : List ℕ) (f : Figures) : Type 0 where
  pub seat : ℕ
  pub written : List ℕ
  pub last : Pass RevisionData
  pub served : IsLoadServed (terms usual) (Unit {0}) (new_pass seat) session written last
  pub counted : AreCounted (codes_of served.served.exchanges) f.ok f.refused
  pub revision : f.revision ≡ end_from last.first last.seen
  pub rows : List RowData
  pub listing : IsListing (log_of [] last) pods_of_load f.revision rows
  pub items : f.items ≡ length rows

-- the figures of the load with so many requests
pub record IsLoad (from requests : ℕ) (f : Figures) : Type 0 where
  pub requests_is : f.requests ≡ requests
  pub figures : AreFigures (session_text from requests) f

-- the lines were sent on, or broken off; or there was no memory, and nothing was written
abbrev pub IsTold : ℕ → ℕ → Sent → Result ⊤ LoadNo → Type 0
IsTold from requests sent (Ok done) = (f : Figures) × IsLoad from requests f × IsSentOn (figure_lines f) sent
IsTold from requests sent (Err WriteFault) = (f : Figures) × IsLoad from requests f × IsBrokenOff (figure_lines f) sent
IsTold from requests sent (Err Memory) = sent.written_new ≡ sent.written_old
