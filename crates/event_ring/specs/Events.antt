-- An event as plain data: what one change of an object was.
use Rattle.std.specs.Prelude.{◌≡◌, ℕ, List, Option, option_map, IfSome}
use Rattle.kube_meta.specs.Rows.{RowData, key_of}

-- the revision of the change and the key of the object; the object before it and now, where there is one; and,
-- for those who are told that it left their selection, the object before it with the revision of the change
pub record EventRows : Type 0 where
  pub rev : ℕ
  pub key : List ℕ
  pub before : Option RowData
  pub now : Option RowData
  pub left : Option RowData

-- the row's object at another revision
abbrev pub at_revision : ℕ → RowData → RowData
at_revision rev row = record { obj = row.obj; rev = rev }

-- what an event is: its objects have its key, that of now has its revision, and what left is the object before
-- at its revision
pub record IsEvent (event : EventRows) : Type 0 where
  pub before_keyed : IfSome event.before (λ row. key_of row ≡ event.key)
  pub now_keyed : IfSome event.now (λ row. key_of row ≡ event.key)
  pub now_numbered : IfSome event.now (λ row. row.rev ≡ event.rev)
  pub left_is : event.left ≡ option_map (at_revision event.rev) event.before

-- the event of a change, from the object before it and the one now
abbrev pub event_of : ℕ → List ℕ → Option RowData → Option RowData → EventRows
event_of rev key before now = record { rev = rev; key = key; before = before; now = now; left = option_map (at_revision rev) before }
