-- What a write needs of the log.
use Rattle.std.specs.Prelude.{◌≡◌, ◌≢◌, ℕ, ◌<◌, ◌^◌, ◌⊎◌, Bool, true, false, List, Option, Some, None, IsSome, IfSome}
use Rattle.std.specs.List.{Contains}
use Rattle.kube_meta.specs.Rows.{RowData}
use Rattle.rev_log.specs.Logs.{Log, end_of}
use Rattle.up_store.specs.Writes.{row_before}
use Rattle.up_store.specs.declared.writes.WriteAsk.{WriteAsk}
use Rattle.up_store.specs.declared.writes.WriteAsk.TheVariants.{Create, Replace, Remove}

-- ---- what holds where writes are done

-- the row that stands at a write's key is as the write needs it: none for a create, some row for a removal, and for a
-- replacement some row, at the given revision where one is given
abbrev pub Meets : WriteAsk → Option RowData → Type 0
Meets (Create resource obj) row = row ≡ None
Meets (Replace resource obj given) row = (found : RowData) × (row ≡ Some found) × IfSome given (λ rev. rev ≡ found.rev)
Meets (Remove resource key) row = IsSome row

-- a log takes these writes: it is no mirror's, a revision can follow its last one, and each finds what it needs there
pub record Takes (mirror : Bool) (log : Log) (asks : List WriteAsk) : Type 0 where
  pub own : mirror ≡ false
  pub room : end_of log < 2 ^ 62
  pub met : (ask : WriteAsk) → Contains asks ask → Meets ask (row_before log ask)

-- ---- what holds where they are refused

-- the row isn't as the write needs it: the object exists already; there is none; or it was last written at another
-- revision than the given one
abbrev pub Fails : WriteAsk → Option RowData → Type 0
Fails (Create resource obj) row = IsSome row
Fails (Replace resource obj given) row =
    (row ≡ None) ⊎ ((found : RowData) × (rev : ℕ) × (row ≡ Some found) × (given ≡ Some rev) × (rev ≢ found.rev))
Fails (Remove resource key) row = row ≡ None

-- a log doesn't take these writes: it is a mirror's, its last revision is the last one that there is, or one of them
-- doesn't find what it needs
abbrev pub TakesNot : Bool → Log → List WriteAsk → Type 0
TakesNot mirror log asks =
    (mirror ≡ true) ⊎ ((end_of log ≡ 2 ^ 62) ⊎ ((ask : WriteAsk) × Contains asks ask × Fails ask (row_before log ask)))
