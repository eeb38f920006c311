-- What the client is asked at a turn, after it was told the time.
use Rattle.std.proofs.Common.{◌≡◌, ℕ, ◌+◌, ◌*◌, ◌<◌, ◌≤◌, Bool, true, false, List, ap, sym, subst, ◌∙◌, Option, Some, Ok}
use Rattle.std.specs.Prelude.{nat_le}
use Rattle.std.proofs.lemmas.Bool.{leb-true, leb-false}
use Rattle.kube_meta.specs.Rows.{RowData}
use Rattle.rev_front.specs.Passes.{Pass}
use Rattle.rev_log.specs.Changes.{RevisionData}
use Rattle.up_api.specs.declared.settings.Settings.{Settings}
use Rattle.client_api.specs.declared.answers.Took.{Took}
use Rattle.client_api.specs.Facts.{Facts, Watched}
use Rattle.client_api.specs.Turns.{IsWatchTurn as Gives, IsTurnAnswer}
use Rattle.sess_turns.specs.Terms.{terms_of, watch_seconds}

-- the answer is of the watch and the window that the client had before it was told the time
pub gives-told : (base : List RowData) (f h : Facts) (heard : ℕ) (p m q : Pass RevisionData) (watched : Watched) (took : Took) →
    h ≡ record f { heard = heard } → f.watching ≡ Some watched → m ≡ p →
    IsTurnAnswer base h.window m h.watching (Ok took) q → Gives base f.window p watched took q
gives-told base f h heard p m q watched took told watching same is =
    subst (λ (z : Pass RevisionData). Gives base f.window z watched took q) same
    (subst (λ (z : Option Watched). IsTurnAnswer base f.window m z (Ok took) q) watching
    (subst (λ (z : Facts). IsTurnAnswer base z.window m z.watching (Ok took) q) told is))

-- whether the time of the watch is over, as the test tells
pub is-late : (settings : Settings) (asked start seconds now : ℕ) (late : Bool) → seconds ≡ watch_seconds settings asked → late ≡ nat_le (start + 1000 * seconds) now → late ≡ true →
    start + 1000 * watch_seconds settings asked ≤ now
is-late settings asked start seconds now late is told test =
    subst (λ (n : ℕ). start + 1000 * n ≤ now) is (leb-true (start + 1000 * seconds) now (sym told ∙ test))

pub is-in-time : (settings : Settings) (asked start seconds now : ℕ) (late : Bool) → seconds ≡ watch_seconds settings asked → late ≡ nat_le (start + 1000 * seconds) now → late ≡ false →
    now < start + 1000 * watch_seconds settings asked
is-in-time settings asked start seconds now late is told test =
    subst (λ (n : ℕ). now < start + 1000 * n) is (leb-false (start + 1000 * seconds) now (sym told ∙ test))

-- facts that changed in their watch and their time alone
pub facts-on : (f g h : Facts) → h ≡ record g { watching = h.watching; heard = h.heard } → g ≡ record f { watching = g.watching; heard = g.heard } →
    h ≡ record f { watching = h.watching; heard = h.heard }
facts-on f g h later first = later ∙ ap (λ (x : Facts). record x { watching = h.watching; heard = h.heard }) first

pub same-terms : (base : List RowData) (mirror : Bool) (settings : Settings) (f g : Facts) → g ≡ record f { watching = g.watching; heard = g.heard } →
    terms_of base mirror g settings ≡ terms_of base mirror f settings
same-terms base mirror settings f g e = ap (λ (x : Facts). terms_of base mirror x settings) e
