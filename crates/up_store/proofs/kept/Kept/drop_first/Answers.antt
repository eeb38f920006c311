-- The floor's rows make the first revision, or the first changes of it.
use Rattle.std.proofs.Common.{◌≡◌, ◌∷◌, ◌++◌, ◌-◌, refl, sym, ap, ◌∙◌, arith}
use Rattle.std.specs.Option.{option_to_list}
use Rattle.rev_log.specs.Changes.{RevisionData}
use Rattle.up_store.specs.Kept.{carried}
use Rattle.up_store.specs.declared.kept.Kept.{Kept}
use Rattle.up_store.proofs.KeptLemmas.{dropping, dropped, dropped-place}
use Rattle.up_store.proofs.kept.Kept.drop_first.Goals as goal

pub returns-in_err-apply-clause-keeps : goal.returns-in_err-apply-clause-keeps
returns-in_err-apply-clause-keeps c = λ log floor n last some place keeps.
    dropping log floor n c.index-first.result.now c.args.self.now some c.index-first.ensures c.requires.some place keeps _ refl c.in_err-apply.ensures.partly

pub returns-clause-keeps : goal.returns-clause-keeps
returns-clause-keeps c = λ log floor n last some place keeps.
    let number : c.behind-first.inside.rev ≡ c.index-first.result.now.rev = ap (λ (r : RevisionData). r.rev) (c.behind-first.view_is ∙ c.get.ensures) in
    let less : c.saturating_sub-self.result ≡ c.args.self.now.bytes - carried c.index-first.result.now =
    c.saturating_sub-self.ensures ∙ ap (λ n. c.args.self.now.bytes - n) (c.from.ensures ∙ c.carried.ensures ∙ ap carried c.get-2.ensures) in
    let first : c.args.self.now.revisions.items ≡ c.index-first.result.now ∷ c.pop_front.new.self.items =
    c.pop_front.ensures.items ∙ ap (λ o. option_to_list o ++ c.pop_front.new.self.items) (c.pop_front.ensures.value c.index-first.result.now (omega (arith, c.requires.some, c.args.self.now.revisions.ok.0)))
    ∙ ap (λ r. r ∷ c.pop_front.new.self.items) (sym c.index-first.ensures) in
    dropped log floor n c.index-first.result.now c.args.self.now some c.index-first.ensures c.requires.some place keeps _ last
    (ap (λ m. let new : Kept = record c.args.self.now { floor_rows = c.apply.new.self; from = m; revisions = c.pop_front.new.self; bytes = c.saturating_sub-self.result } in new) number) first less c.in_ok-apply.ensures.done

pub returns-clause-place : goal.returns-clause-place
returns-clause-place c = λ log floor n last some place keeps.
    let number : c.behind-first.inside.rev ≡ c.index-first.result.now.rev = ap (λ (r : RevisionData). r.rev) (c.behind-first.view_is ∙ c.get.ensures) in
    let less : c.saturating_sub-self.result ≡ c.args.self.now.bytes - carried c.index-first.result.now =
    c.saturating_sub-self.ensures ∙ ap (λ n. c.args.self.now.bytes - n) (c.from.ensures ∙ c.carried.ensures ∙ ap carried c.get-2.ensures) in
    let first : c.args.self.now.revisions.items ≡ c.index-first.result.now ∷ c.pop_front.new.self.items =
    c.pop_front.ensures.items ∙ ap (λ o. option_to_list o ++ c.pop_front.new.self.items) (c.pop_front.ensures.value c.index-first.result.now (omega (arith, c.requires.some, c.args.self.now.revisions.ok.0)))
    ∙ ap (λ r. r ∷ c.pop_front.new.self.items) (sym c.index-first.ensures) in
    dropped-place log floor n c.index-first.result.now c.args.self.now some c.index-first.ensures c.requires.some place keeps _ last
    (ap (λ m. let new : Kept = record c.args.self.now { floor_rows = c.apply.new.self; from = m; revisions = c.pop_front.new.self; bytes = c.saturating_sub-self.result } in new) number) first less c.in_ok-apply.ensures.done
