use Rattle.std.proofs.Common.{◌≡◌, ◌∙◌, ◌++◌, [], ap, sym, subst}
use Rattle.http_read.specs.Answers.{ReadsNext}
use Rattle.http_read.specs.Requests.{IsUnfinished}
use Rattle.http_read.proofs.reader.Reader.next_request.Goals as goal

pub returns-clause-reads : goal.returns-clause-reads
returns-clause-reads g c = λ none.
    let came = c.read_next-answer.ensures.reads in
    let kept = ap (λ r. r.kept) c.self.view_is in
    let rested : c.rest_behind.new.self ≡ record { kept = c.read_next-answer.new.kept; refusal = c.refusal_of-self-inside.result } = c.rest_behind.ensures in
    let left = g.S.Source.left c.read_next-answer.new.source in
    let old_faults = g.S.Source.faults c.args.source.now in
    let new_faults = g.S.Source.faults c.read_next-answer.new.source in record {
      taken = came.0;
      left = came.1;
      answers = subst (λ k. ReadsNext (c.args.self.now.kept ++ came.0) c.read_next-answer.result k left old_faults new_faults) (sym (ap (λ r. r.kept) rested))
          (subst (λ k. ReadsNext (k ++ came.0) c.read_next-answer.result c.read_next-answer.new.kept left old_faults new_faults) kept came.2);
      idle = subst (λ k. (IsUnfinished k → ⊥) → came.0 ≡ []) kept came.3;
      refusal = ap (λ r. r.refusal) rested ∙ c.refusal_of-self-inside.ensures;
    }

pub returns-clause-idle : goal.returns-clause-idle
returns-clause-idle g c = λ finished.
    let kept = ap (λ r. r.kept) c.self.view_is in
    c.read_next-answer.ensures.idle (λ u. finished (subst IsUnfinished kept u))
