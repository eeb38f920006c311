use Rattle.std.proofs.Common.{refl, subst, sym}
use Rattle.up_api.specs.Sections.{Learns}
use Rattle.reflect_core.proofs.AlongLemmas.{along_as, anew_along, anew_partly, partly_as}
use Rattle.reflect_core.proofs.PumpLemmas.{learns-on}
use Rattle.reflect_core.proofs.reflector.Reflector.pump_again.Goals.{in-Reached, in-Compacted, in-Cut}
use Rattle.reflect_core.proofs.reflector.Reflector.pump_again.Goals as goal

pub returns-clause-learns : goal.returns-clause-learns
returns-clause-learns g c =
    let first = c.follow.ensures.learns in
    elim c.match-branch-2.branch [
      | in-Reached w ↦ subst (Learns c.args.told.now) (sym w.told-is) first
      | in-Compacted w ↦ subst (Learns c.args.told.now) (sym w.told-is) (learns-on c.args.told.now c.follow.new.told w.rebuild.new.told first w.rebuild.ensures.learns)
      | in-Cut w ↦ subst (Learns c.args.told.now) (sym w.told-is) (learns-on c.args.told.now c.follow.new.told w.rebuild-in-Cut.new.told first w.rebuild-in-Cut.ensures.learns)
    ]

pub returns-clause-along : goal.returns-clause-along
returns-clause-along g c =
    let h = g.H.Held in
    let first = c.follow.ensures.along in
    elim c.match-branch-2.branch [
      | in-Reached w ↦
          along_as h.ends_at h.goes_along h.begins_anew g.N.LogFacts.base c.match-branch-2.result _ c.match-branch-2.told c.follow.new.told c.args.held.now c.match-branch-2.held c.follow.new.held w.result-is w.told-is w.held-is
          (record { last = c.follow.new.held; polls = first; anew = refl })
      | in-Compacted w ↦
          along_as h.ends_at h.goes_along h.begins_anew g.N.LogFacts.base c.match-branch-2.result w.rebuild.result c.match-branch-2.told w.rebuild.new.told c.args.held.now c.match-branch-2.held w.rebuild.new.held w.result-is w.told-is w.held-is
          (anew_along h.ends_at h.goes_along h.begins_anew g.N.LogFacts.base w.rebuild.result c.follow.new.told w.rebuild.new.told c.args.held.now c.follow.new.held w.rebuild.new.held w.rebuild.ensures.learns first 1 w.rebuild.ensures.answer w.rebuild.ensures.begins)
      | in-Cut w ↦
          let call = w.rebuild-in-Cut in
          along_as h.ends_at h.goes_along h.begins_anew g.N.LogFacts.base c.match-branch-2.result call.result c.match-branch-2.told call.new.told c.args.held.now c.match-branch-2.held call.new.held w.result-is w.told-is w.held-is
          (anew_along h.ends_at h.goes_along h.begins_anew g.N.LogFacts.base call.result c.follow.new.told call.new.told c.args.held.now c.follow.new.held call.new.held call.ensures.learns first 2 call.ensures.answer call.ensures.begins)
    ]

pub returns-clause-along_partly : goal.returns-clause-along_partly
returns-clause-along_partly g c =
    let h = g.H.Held in
    let first = c.follow.ensures.along in
    elim c.match-branch-2.branch [
      | in-Reached w ↦
          partly_as h.ends_at h.goes_along h.begins_anew g.N.LogFacts.base c.match-branch-2.result _ c.match-branch-2.told c.follow.new.told c.args.held.now c.match-branch-2.held c.follow.new.held w.result-is w.told-is w.held-is tt
      | in-Compacted w ↦
          partly_as h.ends_at h.goes_along h.begins_anew g.N.LogFacts.base c.match-branch-2.result w.rebuild.result c.match-branch-2.told w.rebuild.new.told c.args.held.now c.match-branch-2.held w.rebuild.new.held w.result-is w.told-is w.held-is
          (anew_partly h.ends_at h.goes_along h.begins_anew g.N.LogFacts.base w.rebuild.result c.follow.new.told w.rebuild.new.told c.args.held.now c.follow.new.held w.rebuild.new.held w.rebuild.ensures.learns first w.rebuild.ensures.kept)
      | in-Cut w ↦
          let call = w.rebuild-in-Cut in
          partly_as h.ends_at h.goes_along h.begins_anew g.N.LogFacts.base c.match-branch-2.result call.result c.match-branch-2.told call.new.told c.args.held.now c.match-branch-2.held call.new.held w.result-is w.told-is w.held-is
          (anew_partly h.ends_at h.goes_along h.begins_anew g.N.LogFacts.base call.result c.follow.new.told call.new.told c.args.held.now c.follow.new.held call.new.held call.ensures.learns first call.ensures.kept)
    ]
