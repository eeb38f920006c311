-- Why a log refuses writes, and that it takes what it takes.
use Rattle.std.specs.Prelude.{IsSome}
use Rattle.std.specs.List.{Contains}
use Rattle.std.specs.Option.{option_or}
use Rattle.std.proofs.Common.{◌≡◌, ℕ, zero, suc, ◌+◌, ◌^◌, ◌==◌, ◌⊎◌, inl, inr, Bool, true, false, cond, List, [], ◌∷◌, Option, Some, None, option_map, refl, ap, sym, ◌∙◌, arith, eqb-true}
use Rattle.std.proofs.lemmas.Bool.{eqb-false}
use Rattle.kube_meta.specs.Rows.{RowData}
use Rattle.rev_log.specs.Logs.{Log, end_of}
use Rattle.up_store.specs.Transacting.{first_fault, tx_used_up, tx_refusal_of}
use Rattle.up_store.specs.Writes.{fault_at, fault_of, used_up, refusal_of, row_before}
use Rattle.up_store.specs.declared.transactions.TxWriteNo.{TxWriteNo}
use Rattle.up_store.specs.declared.transactions.TxWriteNo.TheVariants.{Item}
use Rattle.up_store.specs.declared.writes.WriteAsk.{WriteAsk}
use Rattle.up_store.specs.declared.writes.WriteAsk.TheVariants.{Create, Replace, Remove}
use Rattle.up_store.specs.declared.writes.WriteNo.{WriteNo}
use Rattle.laws.specs.Writing.{Meets, Takes, Fails, TakesNot}

-- ---- choices

pub none_is_some : {A : Type 0} (x : A) → None ≡ Some x → ⊥
none_is_some x is = cc

pub same_some : {A : Type 0} (x y : A) → Some x ≡ Some y → x ≡ y
same_some x y is = cc

-- the first of two refusals, or the second
which-first : {A : Type 0} (o p : Option A) (x : A) → option_or o p ≡ Some x → (o ≡ Some x) ⊎ (p ≡ Some x)
which-first None p x is = inr is
which-first (Some y) p x is = inl is

came-from : {A B : Type 0} (f : A → B) (o : Option A) (y : B) → option_map f o ≡ Some y → (x : A) × (o ≡ Some x)
came-from f None y is = absurd (none_is_some y is)
came-from f (Some x) y is = (x, refl)

chosen : {A : Type 0} (test : Bool) (x y : A) → cond test (Some x) None ≡ Some y → test ≡ true
chosen true x y is = refl
chosen false x y is = absurd (none_is_some y is)

not-chosen : {A : Type 0} (test : Bool) (x y : A) → cond test None (Some x) ≡ Some y → test ≡ false
not-chosen true x y is = absurd (none_is_some y is)
not-chosen false x y is = refl

-- ---- refusals

-- the row isn't as the write needs it
row-fails : (end : ℕ) (ask : WriteAsk) (row : Option RowData) (fault : WriteNo) → fault_at end ask row ≡ Some fault → Fails ask row
row-fails end (Create resource obj) None fault is = absurd (none_is_some fault is)
row-fails end (Create resource obj) (Some row) fault is = refl
row-fails end (Replace resource obj given) None fault is = inl refl
row-fails end (Replace resource obj None) (Some row) fault is = absurd (none_is_some fault is)
row-fails end (Replace resource obj (Some rev)) (Some row) fault is =
    let other : (rev == row.rev) ≡ false = not-chosen (rev == row.rev) _ fault is in
    inr (row, rev, refl, refl, eqb-false rev row.rev other)
row-fails end (Remove resource key) None fault is = refl
row-fails end (Remove resource key) (Some row) fault is = absurd (none_is_some fault is)

heads : {X : Type 0} (y : X) (ys : List X) → Contains (y ∷ ys) y
heads y ys = (zero, omega arith, refl)

behind : {X : Type 0} (y z : X) (ys : List X) → Contains ys z → Contains (y ∷ ys) z
behind y z ys (k, inside, is) = (suc k, omega (arith, inside), is)

-- one of the writes finds its row so
one-fails : (log : Log) (place : ℕ) (asks : List WriteAsk) (fault : TxWriteNo) → first_fault log place asks ≡ Some fault →
    (ask : WriteAsk) × Contains asks ask × Fails ask (row_before log ask)
one-fails log place [] fault is = absurd (none_is_some fault is)
one-fails log place (ask ∷ asks) fault is =
    elim (which-first (option_map (λ (no : WriteNo). Item place no) (fault_of log ask)) (first_fault log (place + 1) asks) fault is) [
      | inl here ↦
          let no = came-from (λ (no : WriteNo). Item place no) (fault_of log ask) fault here in
          (ask, heads ask asks, row-fails (end_of log) ask (row_before log ask) no.0 no.1)
      | inr later ↦
          let found = one-fails log (place + 1) asks fault later in
          (found.0, behind ask found.0 asks found.1, found.2)
    ]

-- a write that is refused isn't taken
pub refused_write : (mirror : Bool) (log : Log) (ask : WriteAsk) (fault : WriteNo) → refusal_of mirror log ask ≡ Some fault → TakesNot mirror log (ask ∷ [])
refused_write true log ask fault is = inl refl
refused_write false log ask fault is =
    elim (which-first (fault_of log ask) (used_up (end_of log)) fault is) [
      | inl failed ↦ inr (inr (ask, heads ask [], row-fails (end_of log) ask (row_before log ask) fault failed))
      | inr last ↦ inr (inl (eqb-true (end_of log) (2 ^ 62) (chosen (end_of log == 2 ^ 62) _ fault last)))
    ]

-- nor is a transaction
pub refused_transaction : (mirror : Bool) (log : Log) (asks : List WriteAsk) (fault : TxWriteNo) → tx_refusal_of mirror log asks ≡ Some fault → TakesNot mirror log asks
refused_transaction true log asks fault is = inl refl
refused_transaction false log asks fault is =
    elim (which-first (first_fault log 0 asks) (tx_used_up (end_of log)) fault is) [
      | inl failed ↦ inr (inr (one-fails log 0 asks fault failed))
      | inr last ↦ inr (inl (eqb-true (end_of log) (2 ^ 62) (chosen (end_of log == 2 ^ 62) _ fault last)))
    ]

-- ---- what is taken isn't refused

no-row : {A : Type 0} (o : Option A) → o ≡ None → IsSome o → ⊥
no-row None none some = cc
no-row (Some x) none some = cc

row-clash : (ask : WriteAsk) (row : Option RowData) → Meets ask row → Fails ask row → ⊥
row-clash (Create resource obj) row none some = no-row row none some
row-clash (Replace resource obj None) row (found, there, same) fails = elim fails [
  | inl none ↦ none_is_some found (sym none ∙ there)
  | inr other ↦ none_is_some other.1 other.3
]
row-clash (Replace resource obj (Some given)) row (found, there, same) fails = elim fails [
  | inl none ↦ none_is_some found (sym none ∙ there)
  | inr other ↦
      let one : other.0 ≡ found = same_some other.0 found (sym other.2 ∙ there) in
      let rev : given ≡ other.1 = same_some given other.1 other.3 in
      other.4 (sym rev ∙ same ∙ ap (λ (r : RowData). r.rev) (sym one))
]
row-clash (Remove resource key) row some none = no-row row none some

pub takes_clash : (mirror : Bool) (log : Log) (asks : List WriteAsk) → Takes mirror log asks → TakesNot mirror log asks → ⊥
takes_clash mirror log asks takes not = elim not [
  | inl own ↦ (let e : true ≡ false = sym own ∙ takes.own in cc)
  | inr more ↦ elim more [
    | inl last ↦ absurd (omega (arith, last, takes.room))
    | inr failed ↦ row-clash failed.0 (row_before log failed.0) (takes.met failed.0 failed.1) failed.2
  ]
]
