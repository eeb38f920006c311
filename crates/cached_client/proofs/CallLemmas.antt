-- What a client's call loads, and what is known of a log that nobody else holds.
use Rattle.std.specs.Prelude.{All, IfOk, Result}
use Rattle.std.proofs.Common.{◌≡◌, ℕ, ◌≤◌, List, [], ◌∷◌, ◌++◌, append-nil, refl, sym, ◌∙◌, ap, subst, arith}
use Rattle.std.proofs.lemmas.List.Elements.{All-cons, All-nil, All-weaker}
use Rattle.std.proofs.lemmas.Result.{IfOk-weaker}
use Rattle.rev_front.specs.Passes.{Extends, Pass, looked}
use Rattle.rev_log.specs.Changes.{RevisionData}
use Rattle.up_api.specs.Sections.{Learns}
use Rattle.kube_meta.specs.declared.resources.Resource.{Resource}
use Rattle.select_all.specs.declared.selection.Meaning.{Meaning}
use Rattle.select_all.specs.declared.selection.Meaning.TheVariants.{MostRecent, Any, NotOlder, Exact}
use Rattle.list_rules.specs.Options.{IsNeverExact}
use Rattle.rev_front.proofs.Passing.{extends_self}
use Rattle.client_api.specs.Caches.{UnlessExact}
use Rattle.cached_client.specs.Caches.{CachesFacts, CachesState, KnowsOwn, LoadsBetween, ReadsFor}
use Rattle.cached_client.proofs.ReadLemmas.{may_rise_on}

-- ---- loads

-- none
pub loads_none : (p q : Pass RevisionData) → Learns p q → LoadsBetween p q
loads_none p q learns = record { more = []; loads = learns.loads_stay ∙ sym (append-nil p.loads); within = All-nil (λ load. (p.shown ≤ load) × (load ≤ q.shown)) }

-- one
pub loads_one : (p m q : Pass RevisionData) (n : ℕ) → m ≡ looked p n → p.shown ≤ n → Learns m q → LoadsBetween p q
loads_one p m q n is later learns =
    let P : ℕ → Type 0 = λ load. (p.shown ≤ load) × (load ≤ q.shown) in
    record {
      more = n ∷ [];
      loads = learns.loads_stay ∙ ap (λ (x : Pass RevisionData). x.loads) is;
      within = All-cons P n [] (later, omega (arith, ap (λ (x : Pass RevisionData). x.shown) is, learns.extends.shown_on)) (All-nil P);
    }

-- the same, with none before and behind them
pub loads_around : (p m n q : Pass RevisionData) → Learns p m → LoadsBetween m n → Learns n q → LoadsBetween p q
loads_around p m n q before is after = record {
  more = is.more;
  loads = after.loads_stay ∙ is.loads ∙ ap (λ loads. loads ++ is.more) before.loads_stay;
  within = All-weaker (λ load. (m.shown ≤ load) × (load ≤ n.shown)) (λ load. (p.shown ≤ load) × (load ≤ q.shown))
      (λ load between. (omega (arith, between.0, before.extends.shown_on), omega (arith, between.1, after.extends.shown_on))) is.more is.within;
}

-- a pass that stays as it is
pub learns_self : (p : Pass RevisionData) → Learns p p
learns_self p = record { extends = extends_self p; loads_stay = refl }

pub loads_on : (p n q : Pass RevisionData) → LoadsBetween p n → Learns n q → LoadsBetween p q
loads_on p n q is after = loads_around p p n q (learns_self p) is after

-- ---- a log that nobody else holds

-- what was known of it before a section that changed none of the facts
pub knew : (old new : CachesFacts) (p q : Pass RevisionData) → new ≡ old → KnowsOwn old p → Extends p q → (r : Pass RevisionData) × KnowsOwn new r × Extends r q
knew old new p q same knows later = (p, subst (λ (f : CachesFacts). KnowsOwn f p) (sym same) knows, later)

-- ---- how often the store was read

-- for whoever knew less before
pub reads_since : (resource : Resource) (p m q : Pass RevisionData) (old new : CachesState) → Extends p m → ReadsFor resource m q old new → ReadsFor resource p q old new
reads_since resource p m q old new later is = may_rise_on (old.ends resource) p m q q old.reads new.reads later.gen_on (omega arith) (omega arith) is

-- ---- what isn't asked at one revision alone

pub unexact : (meaning : Meaning) {X : Type 0} → IsNeverExact meaning → UnlessExact meaning X → X
unexact MostRecent never is = is
unexact Any never is = is
unexact (NotOlder asked) never is = is
unexact (Exact asked) never is = absurd (cc never)

pub unexact_ok : {A E : Type 0} (P : A → Type 0) (meaning : Meaning) (answer : Result A E) → IsNeverExact meaning → IfOk answer (λ given. UnlessExact meaning (P given)) → IfOk answer P
unexact_ok P meaning answer never is = IfOk-weaker answer _ P (λ given of_given. unexact meaning never of_given) is
