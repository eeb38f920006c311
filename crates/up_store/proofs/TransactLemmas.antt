-- Which write of a transaction is refused first, and what an accepted one is answered and leaves.
use Rattle.std.proofs.Common.{◌≡◌, ℕ, zero, suc, ◌+◌, ◌^◌, ◌<◌, ◌≤◌, ◌⊎◌, inl, inr, Bool, true, false, List, [], ◌∷◌, ◌++◌, length, map, take, drop, get_or, Option, Some, None, option_map, Ok, Err, All, refl, sym, ap, ◌∙◌, subst, arith}
use Rattle.std.specs.List.{list_any}
use Rattle.std.specs.Option.{option_or}
use Rattle.std.specs.List.Sorted.{IsPermutation}
use Rattle.std.proofs.lemmas.Bool.{false_from_ne_true}
use Rattle.std.proofs.lemmas.List.{take_more, at_drop_more, at_drop_all, get_or-map, get_or-take, length-map, length-take, map-append}
use Rattle.std.proofs.lemmas.List.Elements.{All-map}
use Rattle.std.proofs.lemmas.List.Folds.{list_any-from_Any}
use Rattle.kube_meta.specs.Rows.{RowData}
use Rattle.rev_front.specs.Passes.{Whole, revision}
use Rattle.rev_log.specs.Changes.{ChangeData, RevisionData, AreOfDistinctObjects, same_object, IsRevision}
use Rattle.rev_log.specs.Logs.{Log, end_of, Fits}
use Rattle.up_store.specs.declared.kept.Kept.{Kept}
use Rattle.up_store.specs.Kept.{Keeps}
use Rattle.up_store.specs.declared.transactions.TxWriteNo.{TxWriteNo}
use Rattle.up_store.specs.declared.transactions.TxWriteNo.TheVariants.{Item, UsedUp, ReadOnly, Memory}
use Rattle.up_store.specs.declared.writes.WriteAsk.{WriteAsk}
use Rattle.up_store.specs.declared.writes.WriteAsk.TheVariants.{Create, Replace, Remove}
use Rattle.up_store.specs.declared.writes.WriteNo.{WriteNo}
use Rattle.up_store.specs.declared.writes.Written.{Written}
use Rattle.up_store.specs.Stores.{log_in, accepted}
use Rattle.up_store.specs.Transacting.{first_fault, tx_used_up, tx_refusal_of, IsRevisionOf, AreWritten, IsTransactionAnswer, IsTxPrepared}
use Rattle.up_store.specs.Transactions.{target_of, same_target, AreTransaction}
use Rattle.up_store.specs.Writes.{fault_at, fault_of, row_before, change_of, IsWritten}
use Rattle.up_store.proofs.Repeats.{stands_before_among, in_targets}
use Rattle.up_store.proofs.WriteLemmas.{fault-there, at-last, before-last, change-number}

-- ---- the first fault

-- what the next write's fault decides
pub fault-next : (log : Log) (asks : List WriteAsk) (i : ℕ) (ask : WriteAsk) → i < length asks → ask ≡ get_or asks i ask →
    first_fault log i (drop i asks) ≡ option_or (option_map (λ fault. Item i fault) (fault_of log ask)) (first_fault log (i + 1) (drop (i + 1) asks))
fault-next log asks i ask inside is =
    at_drop_more (first_fault log i) asks i ask inside
    ∙ ap (λ a. option_or (option_map (λ fault. Item i fault) (fault_of log a)) (first_fault log (i + 1) (drop (i + 1) asks))) (sym is)

-- it is refused, or else the rest decides
pub fault-found : (log : Log) (asks : List WriteAsk) (i at : ℕ) (ask : WriteAsk) (row : Option RowData) (fault : WriteNo) → i < length asks → ask ≡ get_or asks i ask →
    row ≡ row_before log ask → at ≡ end_of log → fault_at at ask row ≡ Some fault → first_fault log 0 asks ≡ first_fault log i (drop i asks) →
    Some (Item i fault) ≡ first_fault log 0 asks
fault-found log asks i at ask row fault inside is found end faulty so =
    sym (so ∙ fault-next log asks i ask inside is ∙ ap (λ f. option_or (option_map (λ n. Item i n) f) (first_fault log (i + 1) (drop (i + 1) asks))) (fault-there log at ask row (Some fault) found end faulty))

pub fault-none : (log : Log) (asks : List WriteAsk) (i at : ℕ) (ask : WriteAsk) (row : Option RowData) → i < length asks → ask ≡ get_or asks i ask →
    row ≡ row_before log ask → at ≡ end_of log → fault_at at ask row ≡ None → first_fault log 0 asks ≡ first_fault log i (drop i asks) →
    first_fault log 0 asks ≡ first_fault log (i + 1) (drop (i + 1) asks)
fault-none log asks i at ask row inside is found end faulty so =
    so ∙ fault-next log asks i ask inside is ∙ ap (λ f. option_or (option_map (λ n. Item i n) f) (first_fault log (i + 1) (drop (i + 1) asks))) (fault-there log at ask row None found end faulty)

-- none was
pub fault-nowhere : (log : Log) (asks : List WriteAsk) (i : ℕ) → length asks ≤ i → first_fault log 0 asks ≡ first_fault log i (drop i asks) → None ≡ first_fault log 0 asks
fault-nowhere log asks i past so = sym (so ∙ at_drop_all (first_fault log i) asks i past)

-- ---- the refusals

-- a fault refuses
pub tx-faulty : (log : Log) (asks : List WriteAsk) (fault : TxWriteNo) → Some fault ≡ first_fault log 0 asks → tx_refusal_of false log asks ≡ Some fault
tx-faulty log asks fault is = ap (λ o. option_or o (tx_used_up (end_of log))) (sym is)

-- the last revision refuses what has no fault
pub tx-last : (log : Log) (at : ℕ) (asks : List WriteAsk) → None ≡ first_fault log 0 asks → at ≡ end_of log → at ≡ 2 ^ 62 → tx_refusal_of false log asks ≡ Some (UsedUp at)
tx-last log at asks faultless end last =
    ap (λ o. option_or o (tx_used_up (end_of log))) (sym faultless) ∙ at-last UsedUp (end_of log) at end last

-- and nothing else does
pub tx-unrefused : (log : Log) (at : ℕ) (asks : List WriteAsk) → None ≡ first_fault log 0 asks → at ≡ end_of log → at < 2 ^ 62 → tx_refusal_of false log asks ≡ None
tx-unrefused log at asks faultless end below =
    ap (λ o. option_or o (tx_used_up (end_of log))) (sym faultless) ∙ before-last UsedUp (end_of log) at end below

-- ---- loops over the writes and their objects

-- two lists that are mapped alike have elements that are mapped alike
pub mapped-at : {X Y Z : Type 0} (f : X → Z) (g : Y → Z) (xs : List X) (ys : List Y) (i : ℕ) (x : X) (y : Y) → map f xs ≡ map g ys → i < length ys → x ≡ get_or xs i x → y ≡ get_or ys i y → f x ≡ g y
mapped-at f g xs ys i x y same inside x_is y_is =
    let long : length xs ≡ length ys = sym (length-map xs f) ∙ ap length same ∙ length-map ys g in
    ap f x_is ∙ sym (get_or-map f xs i x (g y) (omega (arith, long, inside))) ∙ ap (λ zs. get_or zs i (g y)) same ∙ get_or-map g ys i y (g y) inside ∙ ap g (sym y_is)

-- one more is the image of the next
pub image-more : {X Y : Type 0} (g : Y → X) (done : List X) (ys : List Y) (i : ℕ) (x : X) (y : Y) → i < length ys → y ≡ get_or ys i y → x ≡ g y → done ≡ map g (take i ys) →
    done ++ x ∷ [] ≡ map g (take (i + 1) ys)
image-more g done ys i x y inside y_is same so =
    ap (λ zs. zs ++ x ∷ []) so
    ∙ ap (λ z. map g (take i ys) ++ z ∷ []) (same ∙ ap g y_is)
    ∙ sym (map-append g (take i ys) (get_or ys i y ∷ []))
    ∙ ap (map g) (sym (take_more ys i y inside))

written-last : (log : Log) (asks : List WriteAsk) (answers : List Written) (ask : WriteAsk) (written : Written) → AreWritten log asks answers → IsWritten log ask written →
    AreWritten log (asks ++ ask ∷ []) (answers ++ written ∷ [])
written-last log [] [] ask written are is = (is, tt)
written-last log [] (other ∷ more) ask written are is = absurd are
written-last log (first ∷ rest) [] ask written are is = absurd are
written-last log (first ∷ rest) (other ∷ more) ask written are is = (are.0, written-last log rest more ask written are.1 is)

-- one more write is answered
pub written-more : (log : Log) (asks : List WriteAsk) (answers : List Written) (i : ℕ) (ask : WriteAsk) (written : Written) → i < length asks → ask ≡ get_or asks i ask →
    AreWritten log (take i asks) answers → IsWritten log ask written → AreWritten log (take (i + 1) asks) (answers ++ written ∷ [])
written-more log asks answers i ask written inside is are written_is =
    subst (λ xs. AreWritten log xs (answers ++ written ∷ [])) (ap (λ a. take i asks ++ a ∷ []) is ∙ sym (take_more asks i ask inside)) (written-last log (take i asks) answers ask written are written_is)

-- ---- the changes are of distinct objects

changed-object : (rev : ℕ) (a b : WriteAsk) → same_object (change_of rev a) (change_of rev b) ≡ same_target (target_of a) (target_of b)
changed-object rev a b =
    ap (λ t. same_target t ((change_of rev b).resource, (change_of rev b).key)) (target rev a) ∙ ap (same_target (target_of a)) (target rev b)
  where
    target : (n : ℕ) (ask : WriteAsk) → ((change_of n ask).resource, (change_of n ask).key) ≡ target_of ask
    target n (Create resource obj) = refl
    target n (Replace resource obj given) = refl
    target n (Remove resource key) = refl

item-at : {X : Type 0} (xs : List X) (i : ℕ) → i < length xs → (x : X) × (x ≡ get_or xs i x)
item-at [] i inside = absurd (omega (arith, inside))
item-at (x ∷ xs) zero inside = (x, refl)
item-at (x ∷ xs) (suc i) inside = item-at xs i (omega (arith, inside))

-- where no element passes, none at a place does
none-passes : {X : Type 0} (p : X → Bool) (xs : List X) (i : ℕ) (x : X) → list_any p xs ≡ false → i < length xs → x ≡ get_or xs i x → p x ≡ false
none-passes p xs i x none inside is =
    false_from_ne_true (p x) (λ passes. let some : list_any p xs ≡ true = list_any-from_Any p xs (i, x, inside, sym is, passes) in cc)

pub changes-distinct : (rev : ℕ) (asks : List WriteAsk) → AreTransaction asks → AreOfDistinctObjects (map (change_of rev) asks)
changes-distinct rev asks are = λ i j d before inside.
    let within : j < length asks = subst (λ n. j < n) (length-map asks (change_of rev)) inside in
    let a = item-at asks i (omega (arith, before, within)) in
    let b = item-at asks j within in
    let none : list_any (λ earlier. same_target (target_of earlier) (target_of b.0)) (take j asks) ≡ false =
    sym (stands_before_among asks j b.0 within b.1 (list_any (λ earlier. same_target (target_of earlier) (target_of b.0)) (take j asks)) refl) ∙ are.distinct j (in_targets asks j within) in
    let among : i < length (take j asks) = omega (arith, before, within, length-take j asks) in
    let first : a.0 ≡ get_or (take j asks) i a.0 = a.1 ∙ sym (get_or-take j asks i a.0 before) in
    let apart : same_target (target_of a.0) (target_of b.0) ≡ false = none-passes (λ earlier. same_target (target_of earlier) (target_of b.0)) (take j asks) i a.0 none among first in
    let left : get_or (map (change_of rev) asks) i d ≡ change_of rev a.0 = get_or-map (change_of rev) asks i a.0 d (omega (arith, before, within)) ∙ ap (change_of rev) (sym a.1) in
    let right : get_or (map (change_of rev) asks) j d ≡ change_of rev b.0 = get_or-map (change_of rev) asks j b.0 d within ∙ ap (change_of rev) (sym b.1) in
    ap (λ x. same_object x (get_or (map (change_of rev) asks) j d)) left ∙ ap (same_object (change_of rev a.0)) right ∙ changed-object rev a.0 b.0 ∙ apart

-- each change has the number
pub changes-numbered : (rev : ℕ) (asks : List WriteAsk) → All (λ change. change.rev ≡ rev) (map (change_of rev) asks)
changes-numbered rev asks = All-map (λ change. change.rev ≡ rev) (change_of rev) asks (λ k d inside. change-number rev (get_or asks k d))

-- ---- the answers of the store

pub tx-fits : (log : Log) (at : ℕ) (asks : List WriteAsk) (r : RevisionData) → IsRevisionOf log asks r → at ≡ end_of log → Fits (at + 1) r
tx-fits log at asks r is end = (is.number ∙ ap (λ n. n + 1) (sym end), is.is)

pub tx-prepared : (log : Log) (at : ℕ) (asks : List WriteAsk) (changes : List ChangeData) (r : RevisionData) → changes ≡ map (change_of (at + 1)) asks → r.rev ≡ at + 1 → IsPermutation changes r.changes → IsRevision r → at ≡ end_of log →
    IsRevisionOf log asks r
tx-prepared log at asks changes r are number perm is end = record {
  number = number ∙ ap (λ n. n + 1) end;
  is = is;
  changes = subst (λ xs. IsPermutation xs r.changes) (are ∙ ap (λ n. map (change_of n) asks) (sym number)) perm;
}

-- a refusal leaves the log
pub tx-answer-refused : (base : List RowData) (mirror : Bool) (history : ℕ) (asks : List WriteAsk) (w after : Whole RevisionData) (fault : TxWriteNo) → after ≡ w →
    (fault ≡ Memory) ⊎ (tx_refusal_of mirror (log_in base w) asks ≡ Some fault) → IsTransactionAnswer base mirror history asks w after (Err fault)
tx-answer-refused base mirror history asks w after Memory same why = same
tx-answer-refused base mirror history asks w after (Item index no_) same why = elim why [ inl memory ↦ cc | inr refused ↦ (refused, same) ]
tx-answer-refused base mirror history asks w after (UsedUp at) same why = elim why [ inl memory ↦ cc | inr refused ↦ (refused, same) ]
tx-answer-refused base mirror history asks w after (ReadOnly at) same why = elim why [ inl memory ↦ cc | inr refused ↦ (refused, same) ]

-- one that isn't prepared is refused, and the log stays
pub tx-unprepared : (base : List RowData) (mirror : Bool) (history at : ℕ) (asks : List WriteAsk) (w : Whole RevisionData) (kept : Kept) (fault : TxWriteNo) → mirror ≡ false → at ≡ revision w → Keeps (log_in base w) w.floor kept →
    (fault ≡ Memory) ⊎ ((log : Log) (floor : ℕ) → Keeps log floor kept → at ≡ end_of log → tx_refusal_of false log asks ≡ Some fault) →
    IsTransactionAnswer base mirror history asks w w (Err fault)
tx-unprepared base mirror history at asks w kept fault own end keeps why =
    tx-answer-refused base mirror history asks w w fault refl (elim why [
      | inl memory ↦ inl memory
      | inr refuses ↦ inr (subst (λ m. tx_refusal_of m (log_in base w) asks ≡ Some fault) (sym own) (refuses (log_in base w) w.floor keeps end))
    ])

-- one that is prepared, and then committed
pub tx-committed : (base : List RowData) (mirror : Bool) (history at : ℕ) (asks : List WriteAsk) (w after : Whole RevisionData) (kept : Kept) (answers : List Written) (r : RevisionData) → mirror ≡ false → after ≡ accepted history w r →
    at ≡ revision w → Keeps (log_in base w) w.floor kept → ((log : Log) (floor : ℕ) → Keeps log floor kept → at ≡ end_of log → IsTxPrepared log asks answers r) →
    IsTransactionAnswer base mirror history asks w after (Ok answers)
tx-committed base mirror history at asks w after kept answers r own more end keeps prepared =
    let here : IsTxPrepared (log_in base w) asks answers r = prepared (log_in base w) w.floor keeps end in
    (subst (λ m. tx_refusal_of m (log_in base w) asks ≡ None) (sym own) here.unrefused, here.written_are, (r, here.revision_is, more))
