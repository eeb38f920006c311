-- What the types of the table's handles keep: at which table they sit, and that their numbers are those that their seats know.
use Rattle.std.specs.Prelude.{◌≡◌, ℕ, ◌≤◌, ◌^◌, max, List, [], length}
use Rattle.atomic_table.specs.Seated.{TableId}
use Rattle.atomic_table.specs.declared.shared.Seat.{Seat}
use Rattle.rev_front.specs.declared.sight.Role.TheVariants.{Reader}
use Rattle.rev_front.specs.declared.sight.Sight.{Sight}
use Rattle.rev_front.specs.Passes.{LogId, IsPass, end_from, last_or}
use Rattle.rev_front.specs.Rule.{Leads, pass_of, opening_sight}

-- a seat at the table of the log. There are three words and no slot, and the seat holds none
pub record Sits {E : Type 0} (id : LogId) (table : TableId) (key : ℕ) (seat : TableId) (carried : List (ℕ × E)) : Type 0 where
  pub table_is : table ≡ id.table
  pub key_is : key ≡ id.first
  pub words : table.words ≡ 3
  pub slots : table.slots ≡ 0
  pub seat_is : seat ≡ table
  pub bare : carried ≡ []

-- a seat that comes from the table of the log, and holds no slot
pub record Comes {E : Type 0} (id : LogId) (seat : TableId) (carried : List (ℕ × E)) : Type 0 where
  pub seat_is : seat ≡ id.table
  pub bare : carried ≡ []

-- the numbers of the pen are those of the first seat, and its book has each revision once
pub record Writes {E : Type 0} (fits : ℕ → E → Type 0) (first seat : ℕ) (v : Sight E) (revision gen floor booked : ℕ) : Type 0 where
  pub first_seat : seat ≡ 0
  pub leads : Leads fits first v
  pub revision_is : revision ≡ v.shown
  pub gen_is : gen ≡ v.generation
  pub floor_is : floor ≡ v.floor
  pub booked_is : booked ≡ length v.seen

-- the numbers of a pass are those of its seat. The greatest revision that it was told came from its last load, or otherwise
pub record IsReaderOf {E : Type 0} (fits : ℕ → E → Type 0) (first seat : ℕ) (v : Sight E) (end last told floor : ℕ) : Type 0 where
  pub role : v.role ≡ Reader
  pub lawful : IsPass fits (pass_of first seat v)
  pub end_is : end ≡ end_from first v.seen
  pub last_is : last ≡ last_or 0 v.loads
  pub shown_is : max last told ≡ v.shown
  pub floor_is : floor ≡ v.floor

-- the numbers of what is told are those of its seat
pub record IsNewsOf {E : Type 0} (fits : ℕ → E → Type 0) (first seat : ℕ) (v : Sight E) (end shown floor : ℕ) : Type 0 where
  pub role : v.role ≡ Reader
  pub lawful : IsPass fits (pass_of first seat v)
  pub end_is : end ≡ end_from first v.seen
  pub shown_is : shown ≡ v.shown
  pub floor_is : floor ≡ v.floor

-- the first seat of a new log
pub record IsBlank {E : Type 0} (table : TableId) (key : ℕ) (seat : Seat E (Sight E)) (first : ℕ) : Type 0 where
  pub key_is : key ≡ first
  pub words : table.words ≡ 3
  pub slots : table.slots ≡ 0
  pub seat_is : seat.table_id ≡ table
  pub first_seat : seat.id ≡ 0
  pub me_is : seat.me ≡ (opening_sight first, [])
  pub bounded : first ≤ 2 ^ 62
