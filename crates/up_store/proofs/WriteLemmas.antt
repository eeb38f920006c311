-- Refusals of writes, and what accepted ones leave.
use Rattle.std.proofs.Common.{◌≡◌, ℕ, ◌+◌, ◌^◌, ◌<◌, ◌⊎◌, inl, inr, Bool, false, ◌==◌, cond, List, [], ◌∷◌, Option, Some, None, Ok, Err, refl, sym, ap, ◌∙◌, subst, arith, eq-eqb}
use Rattle.std.specs.Option.{option_or}
use Rattle.std.specs.Prelude.{Result, IsErrAnd}
use Rattle.std.proofs.lemmas.Bool.{ne_eqb}
use Rattle.kube_meta.specs.Rows.{RowData}
use Rattle.rev_front.specs.Passes.{Authored, Whole, revision}
use Rattle.rev_log.specs.Changes.{ChangeData, RevisionData, HasItsKey, IsRevision}
use Rattle.rev_log.specs.Logs.{Log, end_of, Fits}
use Rattle.rev_log.proofs.ChangeLemmas.{IsRevision-single}
use Rattle.up_store.specs.declared.kept.Kept.{Kept}
use Rattle.up_store.specs.Kept.{Keeps}
use Rattle.up_store.specs.declared.writes.WriteAsk.TheVariants.{Create, Replace, Remove}
use Rattle.up_store.specs.declared.writes.Written.{Written}
use Rattle.up_store.specs.declared.writes.WriteAsk.{WriteAsk}
use Rattle.up_store.specs.declared.writes.WriteNo.{WriteNo}
use Rattle.up_store.specs.declared.writes.WriteNo.TheVariants.{Exists, Absent, Stale, UsedUp, ReadOnly, Memory}
use Rattle.up_store.specs.Stores.{log_in, accepted, paid}
use Rattle.up_store.specs.Writes.{fault_at, fault_of, used_up, refusal_of, row_before, change_of, write_of, IsPrepared, IsWriteAnswer}

-- nothing is paid for what is refused
pub unpaid : {A E : Type 0} (Q : E → Type 0) (a : Authored) (answer : Result A E) → IsErrAnd answer Q → a ≡ paid answer a
unpaid Q a (Ok x) h = absurd h
unpaid Q a (Err fault) h = refl

pub fault-there : (log : Log) (at : ℕ) (ask : WriteAsk) (row : Option RowData) (fault : Option WriteNo) → row ≡ row_before log ask → at ≡ end_of log → fault_at at ask row ≡ fault → fault_of log ask ≡ fault
fault-there log at ask row fault found end is = ap (λ n. fault_at n ask (row_before log ask)) (sym end) ∙ ap (fault_at at ask) (sym found) ∙ is

-- a fault refuses
pub refused-faulty : (log : Log) (at : ℕ) (ask : WriteAsk) (row : Option RowData) (fault : WriteNo) → row ≡ row_before log ask → at ≡ end_of log → fault_at at ask row ≡ Some fault →
    refusal_of false log ask ≡ Some fault
refused-faulty log at ask row fault found end is = ap (λ o. option_or o (used_up (end_of log))) (fault-there log at ask row (Some fault) found end is)

-- the last revision is used up, and none before it is
pub at-last : {E : Type 0} (refusal : ℕ → E) (n at : ℕ) → at ≡ n → at ≡ 2 ^ 62 → cond (n == 2 ^ 62) (Some (refusal n)) None ≡ Some (refusal at)
at-last refusal n at end last = rw (eq-eqb n (2 ^ 62) (sym end ∙ last)) (ap (λ m. Some (refusal m)) (sym end))

pub before-last : {E : Type 0} (refusal : ℕ → E) (n at : ℕ) → at ≡ n → at < 2 ^ 62 → cond (n == 2 ^ 62) (Some (refusal n)) None ≡ None
before-last refusal n at end below = rw (ne_eqb n (2 ^ 62) (λ same. absurd (omega (arith, same, end, below)))) refl

-- the last revision refuses what has no fault
pub refused-last : (log : Log) (at : ℕ) (ask : WriteAsk) (row : Option RowData) → row ≡ row_before log ask → at ≡ end_of log → fault_at at ask row ≡ None → at ≡ 2 ^ 62 →
    refusal_of false log ask ≡ Some (UsedUp at)
refused-last log at ask row found end is last =
    ap (λ o. option_or o (used_up (end_of log))) (fault-there log at ask row None found end is) ∙ at-last UsedUp (end_of log) at end last

-- and nothing else does
pub unrefused : (log : Log) (at : ℕ) (ask : WriteAsk) (row : Option RowData) → row ≡ row_before log ask → at ≡ end_of log → fault_at at ask row ≡ None → at < 2 ^ 62 →
    refusal_of false log ask ≡ None
unrefused log at ask row found end is below =
    ap (λ o. option_or o (used_up (end_of log))) (fault-there log at ask row None found end is) ∙ before-last UsedUp (end_of log) at end below

-- a refusal leaves the log
pub answer-refused : (base : List RowData) (mirror : Bool) (history : ℕ) (ask : WriteAsk) (w after : Whole RevisionData) (fault : WriteNo) → after ≡ w →
    (fault ≡ Memory) ⊎ (refusal_of mirror (log_in base w) ask ≡ Some fault) → IsWriteAnswer base mirror history ask w after (Err fault)
answer-refused base mirror history ask w after Memory same why = same
answer-refused base mirror history ask w after (Exists at present) same why = elim why [ inl memory ↦ cc | inr refused ↦ (refused, same) ]
answer-refused base mirror history ask w after (Absent at) same why = elim why [ inl memory ↦ cc | inr refused ↦ (refused, same) ]
answer-refused base mirror history ask w after (Stale at given present) same why = elim why [ inl memory ↦ cc | inr refused ↦ (refused, same) ]
answer-refused base mirror history ask w after (UsedUp at) same why = elim why [ inl memory ↦ cc | inr refused ↦ (refused, same) ]
answer-refused base mirror history ask w after (ReadOnly at) same why = elim why [ inl memory ↦ cc | inr refused ↦ (refused, same) ]

-- ---- the revision of one write

pub change-number : (n : ℕ) (ask : WriteAsk) → (change_of n ask).rev ≡ n
change-number n (Create resource obj) = refl
change-number n (Replace resource obj given) = refl
change-number n (Remove resource key) = refl

change-keyed : (n : ℕ) (ask : WriteAsk) → HasItsKey (change_of n ask)
change-keyed n (Create resource obj) = refl
change-keyed n (Replace resource obj given) = refl
change-keyed n (Remove resource key) = tt

pub single-is : (log : Log) (at : ℕ) (ask : WriteAsk) (change : ChangeData) (r : RevisionData) → r ≡ record { rev = change.rev; changes = change ∷ [] } → change ≡ change_of (at + 1) ask → at ≡ end_of log →
    r ≡ write_of log ask
single-is log at ask change r single is end =
    single ∙ ap (λ c. record { rev = c.rev; changes = c ∷ [] }) is
    ∙ ap (λ n. record { rev = n; changes = change_of (at + 1) ask ∷ [] }) (change-number (at + 1) ask)
    ∙ ap (λ n. record { rev = n + 1; changes = change_of (n + 1) ask ∷ [] }) end

pub write-fits : (log : Log) (at : ℕ) (ask : WriteAsk) (r : RevisionData) → r ≡ write_of log ask → at ≡ end_of log → Fits (at + 1) r
write-fits log at ask r is end =
    let number : (change_of (end_of log + 1) ask).rev ≡ end_of log + 1 = change-number (end_of log + 1) ask in
    let single : IsRevision (record { rev = (change_of (end_of log + 1) ask).rev; changes = change_of (end_of log + 1) ask ∷ [] }) = IsRevision-single (change_of (end_of log + 1) ask) (change-keyed (end_of log + 1) ask) in
    let lawful : IsRevision (write_of log ask) = subst (λ n. IsRevision (record { rev = n; changes = change_of (end_of log + 1) ask ∷ [] })) number single in
    (ap (λ x. x.rev) is ∙ ap (λ n. n + 1) (sym end), subst IsRevision (sym is) lawful)

-- ---- the store's answers

-- a write that isn't prepared is refused, and the log stays
pub unprepared : (base : List RowData) (mirror : Bool) (history at : ℕ) (ask : WriteAsk) (w : Whole RevisionData) (kept : Kept) (fault : WriteNo) → mirror ≡ false → at ≡ revision w → Keeps (log_in base w) w.floor kept →
    (fault ≡ Memory) ⊎ ((log : Log) (floor : ℕ) → Keeps log floor kept → at ≡ end_of log → refusal_of false log ask ≡ Some fault) →
    IsWriteAnswer base mirror history ask w w (Err fault)
unprepared base mirror history at ask w kept fault own end keeps why =
    answer-refused base mirror history ask w w fault refl (elim why [
      | inl memory ↦ inl memory
      | inr refuses ↦ inr (subst (λ m. refusal_of m (log_in base w) ask ≡ Some fault) (sym own) (refuses (log_in base w) w.floor keeps end))
    ])

-- one that is prepared, and then committed
pub committed-answer : (base : List RowData) (mirror : Bool) (history at : ℕ) (ask : WriteAsk) (w after : Whole RevisionData) (kept : Kept) (written : Written) (r : RevisionData) → mirror ≡ false → after ≡ accepted history w r →
    at ≡ revision w → Keeps (log_in base w) w.floor kept → ((log : Log) (floor : ℕ) → Keeps log floor kept → at ≡ end_of log → IsPrepared log ask written r) →
    IsWriteAnswer base mirror history ask w after (Ok written)
committed-answer base mirror history at ask w after kept written r own more end keeps prepared =
    let here : IsPrepared (log_in base w) ask written r = prepared (log_in base w) w.floor keeps end in
    (subst (λ m. refusal_of m (log_in base w) ask ≡ None) (sym own) here.unrefused, here.written_is, more ∙ ap (accepted history w) here.revision_is)
