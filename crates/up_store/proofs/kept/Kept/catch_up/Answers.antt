-- The tables make one more revision, or the first changes of it.
use Rattle.std.proofs.Common.{◌≡◌, ℕ, suc, ◌+◌, ◌<◌, [], drop, length, refl, sym, ap, ◌∙◌, subst, arith}
use Rattle.std.proofs.lemmas.List.{drop_all, get_or_default}
use Rattle.rev_log.specs.Changes.{RevisionData}
use Rattle.rev_log.specs.Logs.{end_of}
use Rattle.up_store.specs.Kept.{Keeps, changed}
use Rattle.up_store.proofs.KeptLemmas.{place-at, next-at, caught, catching, caught-up}
use Rattle.up_store.proofs.kept.Kept.catch_up.Goals as goal

pub loop-i-init : goal.loop-i-init
loop-i-init c = record {
  from = refl;
  end = refl;
  revisions = refl;
  keeps = λ log floor keeps. (keeps, (c.place_of-start.ensures.place log floor keeps keeps.followed keeps.behind).above);
}

pub returns-in_err-apply-clause-keeps : goal.returns-in_err-apply-clause-keeps
returns-in_err-apply-clause-keeps c = λ log floor keeps.
    let so_far = c.loop-i.invariant.keeps log floor keeps in
    let len : c.args.self.now.revisions.len ≡ length c.loop-i.self.revisions.items = sym (ap (λ rs. rs.len) c.loop-i.invariant.revisions) ∙ c.loop-i.self.revisions.ok.0 in
    let inside : c.loop-i.i < length c.loop-i.self.revisions.items = omega (arith, len, c.loop-i-test.true, c.len-i-end.ensures) in
    catching log floor c.index.result.now c.loop-i.self _
    (next-at log floor c.loop-i.self so_far.0 c.loop-i.self.last_at c.loop-i.i c.index.result.now inside c.index.ensures so_far.1)
    refl c.in_err-apply.ensures.partly so_far.0

pub loop-i-preserved : goal.loop-i-preserved
loop-i-preserved c =
    let len : c.args.self.now.revisions.len ≡ length c.loop-i.self.revisions.items = sym (ap (λ rs. rs.len) c.loop-i.invariant.revisions) ∙ c.loop-i.self.revisions.ok.0 in
    let inside : c.loop-i.i < length c.loop-i.self.revisions.items = omega (arith, len, c.loop-i-test.true, c.len-i-end.ensures) in
    let same : c.index-in-loop-i.result.now ≡ c.index.result.now =
    c.index-in-loop-i.ensures ∙ get_or_default c.loop-i.self.revisions.items c.loop-i.i c.index-in-loop-i.result.now c.index.result.now inside ∙ sym c.index.ensures in
    let number : c.behind-index.inside.rev ≡ c.index.result.now.rev = ap (λ (r : RevisionData). r.rev) (c.behind-index.view_is ∙ c.get.ensures ∙ same) in
    record {
      from = c.loop-i.invariant.from;
      end = c.loop-i.invariant.end;
      revisions = c.loop-i.invariant.revisions;
      keeps = λ log floor keeps.
          let so_far = c.loop-i.invariant.keeps log floor keeps in
          let at = place-at log floor c.loop-i.self so_far.0 c.loop-i.i c.index.result.now inside c.index.ensures in
          let next = next-at log floor c.loop-i.self so_far.0 c.loop-i.self.last_at c.loop-i.i c.index.result.now inside c.index.ensures so_far.1 in
          let made : Keeps log floor (record c.loop-i.self { last_rows = c.apply.new.self; last_at = c.index.result.now.rev }) =
          caught log floor c.index.result.now c.loop-i.self (record c.loop-i.self { last_rows = c.apply.new.self; last_at = c.index.result.now.rev }) at.0 at.1 next refl c.in_ok-apply.ensures.done so_far.0 in (
            subst (λ (n : ℕ). Keeps log floor (record c.loop-i.self { last_rows = c.apply.new.self; last_at = n })) (sym number) made,
            ap (λ n. drop n c.loop-i.self.revisions.items) {x = c.loop-i.i + 1} {y = suc c.loop-i.i} (omega arith) ∙ at.2.above ∙ ap (λ n. changed log n (end_of log)) (sym number),
          );
    }

pub returns-clause-keeps : goal.returns-clause-keeps
returns-clause-keeps c = λ log floor keeps.
    let len : c.args.self.now.revisions.len ≡ length c.loop-i.self.revisions.items = sym (ap (λ rs. rs.len) c.loop-i.invariant.revisions) ∙ c.loop-i.self.revisions.ok.0 in
    let so_far = c.loop-i.invariant.keeps log floor keeps in
    let none : changed log c.loop-i.self.last_at (end_of log) ≡ [] = sym so_far.1 ∙ drop_all c.loop-i.i c.loop-i.self.revisions.items (omega (arith, len, c.loop-i-test.false, c.len-i-end.ensures)) in
    caught-up log floor c.loop-i.self _ none refl so_far.0
