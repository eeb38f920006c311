-- A log that nobody else holds: whoever knew it whole, and went on, knows it whole again.
use Rattle.std.specs.Prelude.{Result, Ok, Err}
use Rattle.std.proofs.Common.{◌≡◌, ◌≤◌, List, [], ◌∷◌, ◌++◌, length, append-nil, length-append, ap, sym, ◌∙◌, arith}
use Rattle.std.proofs.lemmas.List.Elements.{All-weaker}
use mathlib.Core.List.{IsPrefix}
use Rattle.rev_front.specs.Passes.{Covers, Extends, IsPass, Pass, Whole, end_from}
use Rattle.rev_front.proofs.Beginnings.{prefix_length}
use Rattle.rev_log.specs.Changes.{RevisionData}
use Rattle.rev_log.specs.Logs.{Fits}
use Rattle.up_api.specs.Sections.{Learns}
use Rattle.up_store.specs.Stores.{KnowsAll}
use Rattle.client_api.specs.Alone.{IsSoleRead, SoleRead}
use Rattle.client_api.specs.declared.answers.ListNo.{ListNo}
use Rattle.client_api.specs.declared.answers.ListNo.TheVariants.{Expired, TooLarge, Absent, Memory}
use Rattle.cached_client.specs.Caches.{LoadsBetween}

none-more : {A : Type 0} (xs ys more : List A) → length more ≡ 0 → xs ++ more ≡ ys → xs ≡ ys
none-more xs ys [] none is = sym (append-nil xs) ∙ is
none-more xs ys (x ∷ more) none is = absurd (omega (arith, none))

prefix-same : {A : Type 0} (xs ys : List A) → IsPrefix xs ys → length ys ≤ length xs → xs ≡ ys
prefix-same xs ys begins long = none-more xs ys begins.0 (omega (arith, long, sym (ap length begins.1) ∙ length-append xs begins.0)) begins.1

-- it is told nothing that it doesn't know
module _ (w : Whole RevisionData) (p m q : Pass RevisionData) (knew : KnowsAll w p) (went : Extends p m) (covers : Covers w m) (met : Learns m q) (knows : KnowsAll w q)
    (was : IsPass Fits m) (now : IsPass Fits q) where
  seen-is : m.seen ≡ w.log
  seen-is = prefix-same m.seen w.log covers.seen (omega (arith, ap length knew.0.seen, prefix_length p.seen m.seen went.seen_on))

  shown-is : q.shown ≡ m.shown
  shown-is = omega (arith, knows.1, knows.0.first, ap length knows.0.seen, knew.1, knew.0.first, ap length knew.0.seen, went.shown_on, covers.shown)

  floor-is : q.floor ≡ m.floor
  floor-is = omega (arith, knows.0.floor, knew.0.floor, went.floor_on, covers.floor)

  gen-is : q.gen ≡ m.gen
  gen-is = omega (arith, knows.0.gen, knew.0.gen, went.gen_on, covers.gen)

  pub settled : q ≡ m
  settled i = record {
    first = met.extends.log_is i;
    seen = (knows.0.seen ∙ sym seen-is) i;
    shown = shown-is i;
    loads = met.loads_stay i;
    floor = floor-is i;
    gen = gen-is i;
    seat = met.extends.seat_is i;
  }

-- a read of it has changed nothing
sole-answer : {A : Type 0} (p q : Pass RevisionData) (answer : Result A ListNo) → IsSoleRead p q → SoleRead p answer q
sole-answer p q (Ok it) sole = sole
sole-answer p q (Err (Expired asked floor)) sole = sole
sole-answer p q (Err (TooLarge asked current)) sole = sole
sole-answer p q (Err (Absent at)) sole = sole
sole-answer p q (Err Memory) sole = ap (λ (w : Whole RevisionData). w.log) sole.same

pub sole-read : {A : Type 0} (w : Whole RevisionData) (p q : Pass RevisionData) (answer : Result A ListNo) → KnowsAll w p → KnowsAll w q → Extends p q → LoadsBetween p q
    → SoleRead p answer q
sole-read w p q answer knew knows later loads = sole-answer p q answer (record {
  same = λ i. record {
    first = later.log_is i;
    log = (knows.0.seen ∙ sym knew.0.seen) i;
    gen = (knows.0.gen ∙ sym knew.0.gen) i;
    floor = (knows.0.floor ∙ sym knew.0.floor) i;
  };
  loads = record {
    more = loads.more;
    loads = loads.loads;
    ends = All-weaker (λ load. (p.shown ≤ load) × (load ≤ q.shown)) (λ load. load ≡ end_from q.first q.seen)
        (λ load between. omega (arith, between.0, between.1, knew.1, knows.1, later.log_is, ap length (knows.0.seen ∙ sym knew.0.seen))) loads.more loads.within;
  };
})
