-- A log that nobody else holds: reads that follow each other change nothing of it.
use Rattle.std.proofs.Common.{◌≡◌, ℕ, [], ◌++◌, refl, ap, sym, subst, ◌∙◌, append_assoc, append-nil, arith}
use Rattle.std.specs.Prelude.{All}
use Rattle.std.proofs.lemmas.List.Elements.{All-append, All-nil}
use Rattle.rev_front.specs.Passes.{Pass, Whole, end_from}
use Rattle.rev_log.specs.Changes.{RevisionData}
use Rattle.client_api.specs.Alone.{IsSoleRead}
use Rattle.sess_turns.specs.Turns.{Finish, AloneFinish}

pub sole-same : (p q : Pass RevisionData) → q ≡ p → IsSoleRead p q
sole-same p q e =
    subst (IsSoleRead p) (sym e) (record {
      same = refl;
      loads = record { more = []; loads = sym (append-nil p.loads); ends = All-nil _ };
    })

pub sole-join : (p m q : Pass RevisionData) → IsSoleRead p m → IsSoleRead m q → IsSoleRead p q
sole-join p m q first second =
    let end : end_from m.first m.seen ≡ end_from q.first q.seen =
    ap (λ (w : Whole RevisionData). end_from w.first w.log) (sym second.same) in
    record {
      same = second.same ∙ first.same;
      loads = record {
        more = first.loads.more ++ second.loads.more;
        loads = second.loads.loads ∙ ap (λ l. l ++ second.loads.more) first.loads.loads ∙ append_assoc p.loads first.loads.more second.loads.more;
        ends = All-append (λ load. load ≡ end_from q.first q.seen) first.loads.more second.loads.more (subst (λ (n : ℕ). All (λ load. load ≡ n) first.loads.more) end first.loads.ends) second.loads.ends;
      };
    }

-- after turns that only read, a finish leaves what it leaves
pub finish-join : (p m q : Pass RevisionData) (finish : Finish) → IsSoleRead p m → AloneFinish m finish q → AloneFinish p finish q
finish-join p m q finish first last =
    let reads : IsSoleRead m q → IsSoleRead p q = sole-join p m q first in
    let same : m.seen ≡ p.seen = ap (λ (w : Whole RevisionData). w.log) first.same in
    grind (arith, reads, same)
