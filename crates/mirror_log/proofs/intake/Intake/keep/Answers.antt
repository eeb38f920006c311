use Rattle.std.proofs.Common.{ℕ, ◌-◌, List, [], ◌∷◌, ◌++◌, take, bytes_eq, vec_len, refl, subst, ap, ◌∙◌, arith}
use Rattle.std.specs.Prelude.{◌&&◌, ◌||◌}
use Rattle.std.proofs.lemmas.List.{take_at}
use Rattle.kube_meta.specs.declared.objects.Obj.{Obj}
use Rattle.select_all.specs.declared.selection.Kind.TheVariants.{Added}
use Rattle.select_all.specs.Streams.{TransitionData}
use Rattle.mirror_log.specs.Intakes.{IntakeData, IsIntake, has, same_kind}
use Rattle.mirror_log.proofs.IntakeLemmas.{one_more, keeps, as_before}
use Rattle.mirror_log.proofs.intake.Intake.keep.Goals as goal

pub invariant_of-self-in-Ok : goal.invariant_of-self-in-Ok
invariant_of-self-in-Ok c =
    let t : TransitionData = record { kind = c.args.kind; obj = c.args.obj; rev = c.args.rev } in
    let new : IntakeData = record { selection = c.self.inside.selection; most_gap = c.self.inside.most_gap; to = c.self.inside.to; keys = c.know.new.keys; kept = c.push.new.self.items } in
    one_more c.args.self.now new t (subst IsIntake c.self.view_is c.self.invariant) c.requires.next c.requires.few c.requires.new_key (ap (λ (i : IntakeData). i.most_gap) c.self.view_is) (ap (λ (i : IntakeData). i.to) c.self.view_is)
    (c.in_ok-push.ensures.items
    ∙ ap (λ (o : Obj). c.self.inside.kept.items ++ (let u : TransitionData = record { kind = c.args.kind; obj = o; rev = c.args.rev } in u) ∷ []) c.in_ok-obj.ensures.ok
    ∙ ap (λ (i : IntakeData). i.kept ++ t ∷ []) c.self.view_is)

pub invariant_of-self-in-Err : goal.invariant_of-self-in-Err
invariant_of-self-in-Err c =
    let x : TransitionData = record { kind = c.args.kind; obj = c.in_ok-obj.obj.value; rev = c.args.rev } in
    as_before (record { selection = c.self.inside.selection; most_gap = c.self.inside.most_gap; to = c.self.inside.to; keys = c.self.inside.keys; kept = c.self.inside.kept.items })
    (record { selection = c.self.inside.selection; most_gap = c.self.inside.most_gap; to = c.self.inside.to; keys = c.know.new.keys; kept = c.pop.new.self.items }) c.self.invariant refl refl
    (c.pop.ensures.rest
    ∙ ap (take (vec_len c.push.new.self - 1)) c.in_ok-push.ensures.items
    ∙ take_at c.self.inside.kept.items (x ∷ []) (vec_len c.push.new.self - 1) (omega (arith, c.in_ok-push.ensures.len, c.self.inside.kept.ok.0)))

pub returns-in-Ok-clause-at : goal.returns-in-Ok-clause-at
returns-in-Ok-clause-at c = λ log at fits.
    let t : TransitionData = record { kind = c.args.kind; obj = c.args.obj; rev = c.args.rev } in
    let new : IntakeData = record { selection = c.self.inside.selection; most_gap = c.self.inside.most_gap; to = c.self.inside.to; keys = c.know.new.keys; kept = c.push.new.self.items } in
    keeps c.args.self.now (subst IsIntake c.self.view_is c.self.invariant) log at new t (ap (λ (i : IntakeData). i.to) c.self.view_is)
    (c.in_ok-push.ensures.items
    ∙ ap (λ (o : Obj). c.self.inside.kept.items ++ (let u : TransitionData = record { kind = c.args.kind; obj = o; rev = c.args.rev } in u) ∷ []) c.in_ok-obj.ensures.ok
    ∙ ap (λ (i : IntakeData). i.kept ++ t ∷ []) c.self.view_is)
    fits
    (λ key.
    c.in-Ok.ensures.added key
    ∙ ap (λ (k : List ℕ). has c.self.inside.keys key || (same_kind c.args.kind Added && bytes_eq k key)) c.in_ok-key.ensures.cases
    ∙ ap (λ (i : IntakeData). has i.keys key || (same_kind c.args.kind Added && bytes_eq c.args.obj.key key)) c.self.view_is)
