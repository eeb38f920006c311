-- What lines and revisions tell, as laws of their own.
use Rattle.std.proofs.Common.{◌≡◌, ℕ, [], ◌++◌, map, refl, sym, ap, ◌∙◌, subst, arith}
use Rattle.std.specs.List.Sorted.{IsStrictlySortedBy}
use Rattle.std.proofs.lemmas.List.Elements.{All-nil, filter_map-append}
use Rattle.std.proofs.lemmas.List.Sorted.{IsPermutation-refl, IsPermutation-sym, IsPermutation-trans}
use Rattle.rev_front.proofs.Beginnings.{fit_push}
use Rattle.rev_log.specs.Changes.{ChangeData, HasItsKey, change_cmp}
use Rattle.rev_log.proofs.ChangeLemmas.{change_total}
use Rattle.select_all.specs.Streams.{transitions}
use Rattle.watch_rules.specs.Bodies.{initial, told_by, told_in, position_of, IsOpening}
use Rattle.watch_rules.proofs.BodyLemmas.{streams_are_told, positions_are_between}
use Rattle.mirror_law.specs.Mirrors.{change_told, IsRevisionTold, of_revision}
use Rattle.mirror_law.specs.Laws.{BeginningsTellTheStream, FewAtOnce, ToldRevisionsAreOne, ToldRevisionsGoOn, EmptyRevisionsAreTold}
use Rattle.mirror_law.proofs.ListLemmas.{sorted_alike}
use Rattle.mirror_law.proofs.TakenLemmas.{few_told}

pub beginnings_tell_the_stream : BeginningsTellTheStream
beginnings_tell_the_stream log log_floor low at ask lines begins =
    let tells = begins.2 in
    let body = tells.body in
    let between = positions_are_between log log_floor low ask body tells.lawful in
    record {
      rows = body.rows;
      upto = position_of body;
      rest = told_in begins.0;
      opening = subst (λ (n : ℕ). IsOpening log ask.selection ask.start n body.rows) tells.begins tells.lawful.opening;
      within = omega (arith, between.1, tells.begins);
      told = sym (filter_map-append told_by lines begins.0) ∙ ap told_in tells.lines_are ∙ streams_are_told log log_floor low ask body tells.lawful
          ∙ ap (λ (n : ℕ). map initial body.rows ++ transitions log ask.selection n (position_of body)) tells.begins;
    }

pub few_at_once : FewAtOnce
few_at_once test log resource at is = few_told test log resource at is

-- ---- told revisions

pub told_revisions_are_one : ToldRevisionsAreOne
told_revisions_are_one resource at told r other is also =
    let number : r.rev ≡ other.rev = is.number ∙ sym also.number in
    let changes : r.changes ≡ other.changes =
    sorted_alike change_cmp change_total r.changes other.changes is.is.rising also.is.rising
    (IsPermutation-trans r.changes (map (change_told resource) told) other.changes (IsPermutation-sym (map (change_told resource) told) r.changes is.changes) also.changes) in
    λ i. record { rev = number i; changes = changes i }

pub told_revisions_go_on : ToldRevisionsGoOn
told_revisions_go_on resource told from revisions revision are is =
    fit_push (λ at r. IsRevisionTold resource at (of_revision at told) r) from revisions revision are is

pub empty_revisions_are_told : EmptyRevisionsAreTold
unfolding IsStrictlySortedBy
empty_revisions_are_told resource at = record {
  number = refl;
  is = record { few = omega arith; rising = tt; numbered = All-nil (λ (c : ChangeData). c.rev ≡ at); keyed = All-nil HasItsKey };
  changes = IsPermutation-refl [];
}
