-- A store's log as it grows, and what a pass knows once the store met it.
use Rattle.std.proofs.Common.{◌≡◌, ℕ, ◌+◌, ◌-◌, ◌^◌, ◌<◌, ◌≤◌, min, sum_by, List, [], ◌∷◌, ◌++◌, append-nil, length, Bool, Err, sym, ap, ◌∙◌, subst, arith}
use Rattle.kube_meta.specs.Rows.{RowData}
use Rattle.rev_front.specs.Passes.{Pass, Whole, quiets, revision, empty_log}
use Rattle.rev_front.proofs.Passing.{extends_trans}
use Rattle.rev_log.specs.Changes.{RevisionData}
use Rattle.kube_meta.specs.declared.resources.Resource.{Resource}
use Rattle.rev_log.specs.Logs.{Log, AreNumbered, quiet_at}
use Rattle.rev_log.specs.States.{row_in_base}
use Rattle.up_api.specs.Sections.{log_of, Learns, Sections, StaysOrKnows}
use Rattle.up_api.specs.declared.refusals.UpNo.{UpNo}
use Rattle.up_api.specs.declared.refusals.UpNo.TheVariants as up_no
use Rattle.up_store.specs.declared.kept.Kept.{Kept}
use Rattle.up_store.specs.Kept.{HoldEach, Keeps, carried, with_changes}
use Rattle.up_store.specs.Past.{IsOldHistory}
use Rattle.up_store.specs.declared.past.OldHistory.{OldHistory}
use Rattle.up_store.specs.Stores.{IsStore, HasMet, log_in}
use Rattle.up_store.proofs.ByteLemmas.{alone, light}
use Rattle.up_store.proofs.ChangedLemmas.{quiets-length, quiets-none, quiets-numbered}
use Rattle.up_store.proofs.KeptLemmas.{keeps-grown, keeps-raised, keeps-begun, carries-little}

-- more revisions
grown-on : (base : List RowData) (w after : Whole RevisionData) (more : List RevisionData) (kept new : Kept) → after ≡ record w { log = w.log ++ more } → revision w + length more ≤ 2 ^ 62 →
    AreNumbered (revision w) more → new ≡ record kept { revisions = new.revisions; bytes = new.bytes; end = new.end } → new.end ≡ revision w + length more →
    new.revisions.items ≡ kept.revisions.items ++ with_changes more → new.bytes ≡ kept.bytes + sum_by carried (with_changes more) → Keeps (log_in base w) w.floor kept → Keeps (log_in base after) after.floor new
grown-on base w after more kept new is room numbered rest end items bytes keeps =
    subst (λ (v : Whole RevisionData). Keeps (log_in base v) v.floor new) (sym is) (keeps-grown (log_in base w) w.floor more kept new room numbered rest end items bytes keeps)

-- one more revision
pub committed : (base : List RowData) (w after : Whole RevisionData) (r : RevisionData) (kept new : Kept) → after ≡ record w { log = w.log ++ r ∷ [] } → revision w < 2 ^ 62 → r.rev ≡ revision w + 1 →
    new ≡ record kept { revisions = new.revisions; bytes = new.bytes; end = r.rev } → new.revisions.items ≡ kept.revisions.items ++ with_changes (r ∷ []) →
    new.bytes ≡ min (kept.bytes + carried r) (2 ^ 128 - 1) → Keeps (log_in base w) w.floor kept → Keeps (log_in base after) after.floor new
committed base w after r kept new is room number rest items bytes keeps =
    let end : new.end ≡ r.rev = ap (λ k. k.end) rest in
    let same : new ≡ record kept { revisions = new.revisions; bytes = new.bytes; end = new.end } = rest ∙ ap (λ n. record kept { revisions = new.revisions; bytes = new.bytes; end = n }) (sym end) in
    let sum : new.bytes ≡ kept.bytes + sum_by carried (with_changes (r ∷ [])) = omega (arith, bytes, carries-little (log_in base w) w.floor kept keeps, light (r ∷ []), alone r) in
    grown-on base w after (r ∷ []) kept new is (omega (arith, room)) (number, tt) same (end ∙ number) items sum keeps

-- quiet ones are passed over
pub passed : (base : List RowData) (w after : Whole RevisionData) (upto : ℕ) (kept new : Kept) → after ≡ record w { log = w.log ++ quiets quiet_at (revision w) (upto - revision w) } →
    revision w ≤ upto → upto ≤ 2 ^ 62 → new ≡ record kept { end = upto } → Keeps (log_in base w) w.floor kept → Keeps (log_in base after) after.floor new
passed base w after upto kept new is onward last rest keeps =
    let n : ℕ = upto - revision w in
    let long : length (quiets quiet_at (revision w) n) ≡ upto - revision w = quiets-length (revision w) n in
    let end : new.end ≡ upto = ap (λ k. k.end) rest in
    let items : new.revisions.items ≡ kept.revisions.items = ap (λ k. k.revisions.items) rest in
    let same : new ≡ record kept { revisions = new.revisions; bytes = new.bytes; end = new.end } =
    rest ∙ ap (λ (k : Kept). record kept { revisions = k.revisions; bytes = k.bytes; end = k.end }) (sym rest) in
    grown-on base w after (quiets quiet_at (revision w) n) kept new is (omega (arith, long, onward, last)) (quiets-numbered (revision w) n) same (omega (arith, long, onward, end))
    (items ∙ sym (append-nil kept.revisions.items) ∙ ap (λ l. kept.revisions.items ++ l) (sym (quiets-none (revision w) n)))
    (omega (arith, ap (λ k. k.bytes) rest, ap (sum_by carried) (quiets-none (revision w) n))) keeps

-- a higher floor
pub raised : (base : List RowData) (w after : Whole RevisionData) (floor : ℕ) (kept new : Kept) → after ≡ record w { floor = floor } → w.floor ≤ floor → floor ≤ revision w →
    ((log : Log) → Keeps log floor kept → Keeps log floor new) → Keeps (log_in base w) w.floor kept → Keeps (log_in base after) after.floor new
raised base w after floor kept new is above reached settles keeps =
    subst (λ (v : Whole RevisionData). Keeps (log_in base v) v.floor new) (sym is)
    (settles (log_in base w) (keeps-raised (log_in base w) w.floor floor kept above reached keeps))

-- a store of a new log
pub opened : (base : List RowData) (is_mirror mirror : Bool) (w : Whole RevisionData) (kept : Kept) (history first : ℕ) → w ≡ empty_log first → first ≤ 2 ^ 62 → kept.from ≡ first → kept.end ≡ first → kept.last_at ≡ first →
    kept.revisions.items ≡ [] → kept.bytes ≡ 0 → HoldEach kept.floor_rows (row_in_base base) → HoldEach kept.last_rows (row_in_base base) → mirror ≡ is_mirror → 1 ≤ history → IsStore base is_mirror w kept mirror history 0
opened base is_mirror mirror w kept history first is fits from end last_at items bytes floor_rows last_rows same some = record {
  keeps = subst (λ (v : Whole RevisionData). Keeps (log_in base v) v.floor kept) (sym is) (keeps-begun base first kept fits from end last_at items bytes floor_rows last_rows);
  gen_fits = omega (arith, ap (λ v. v.gen) is);
  mirror_is = same;
  some_history = some;
  reads_fit = omega arith;
}

-- what follows for a pass that the store met
pub met-first : (w : Whole RevisionData) (p q : Pass RevisionData) → HasMet w p q → q.first ≡ w.first
met-first w p q met = ap (λ x. x.first) met.is ∙ met.covered.first_is

pub met-log : (base : List RowData) (w : Whole RevisionData) (p q : Pass RevisionData) → HasMet w p q → log_of base q ≡ log_in base w
met-log base w p q met = ap (λ (z : ℕ × List RevisionData). record { first = z.0; base = base; revisions = z.1 }) {x = (q.first, q.seen)} {y = (w.first, w.log)} (λ i. (met-first w p q met i, ap (λ x. x.seen) met.is i))

-- what was learnt, and then more
pub learns-join : (p m q : Pass RevisionData) → Learns p m → Learns m q → Learns p q
learns-join p m q one two = record { extends = extends_trans p m q one.extends two.extends; loads_stay = two.loads_stay ∙ one.loads_stay }

-- what a history is made of, of the log as the pass knows it
pub old-history-told : (base : List RowData) (w : Whole RevisionData) (p q : Pass RevisionData) (resource : Resource) (floor : ℕ) (old : OldHistory) → HasMet w p q → floor ≡ w.floor →
    IsOldHistory (log_in base w) floor resource old → IsOldHistory (log_of base q) q.floor resource old
old-history-told base w p q resource floor old met is history =
    subst (λ (log : Log). IsOldHistory log q.floor resource old) (sym (met-log base w p q met))
    (subst (λ n. IsOldHistory (log_in base w) n resource old) (is ∙ sym (ap (λ x. x.floor) met.is)) history)

-- a refusal is one of whatever was asked for
pub section-refused : (A B : Type 0) (fault : UpNo) (p q : Pass RevisionData) → Sections {A = A} (Err fault) p q → Sections {A = B} (Err fault) p q
section-refused A B (up_no.Compacted asked floor) p q seen = seen
section-refused A B (up_no.Future asked current) p q seen = seen
section-refused A B (up_no.Cut opened now) p q seen = seen
section-refused A B up_no.Memory p q seen = seen

pub known-refused : (A B : Type 0) (fault : UpNo) (w : Whole RevisionData) (p q : Pass RevisionData) → StaysOrKnows {A = A} w (Err fault) p q → StaysOrKnows {A = B} w (Err fault) p q
known-refused A B (up_no.Compacted asked floor) w p q known = known
known-refused A B (up_no.Future asked current) w p q known = known
known-refused A B (up_no.Cut opened now) w p q known = known
known-refused A B up_no.Memory w p q known = known
