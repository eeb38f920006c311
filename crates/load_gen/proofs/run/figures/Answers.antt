use Rattle.std.proofs.Common.{ℕ, List, length, sym, ap, subst, ◌∙◌, arith, rules}
use Rattle.client_api.specs.Answers.{ListedData}
use Rattle.load_gen.specs.Replies.{AreReplies, AreCounted}
use Rattle.load_gen.proofs.LoadLemmas.{tallied}
use Rattle.load_gen.proofs.run.figures.Goals as goal

pub returns : goal.returns
returns c =
    let counts = c.in-Some.counts in
    let list = c.in_ok-list.list in
    let rows = ap (λ (x : ListedData). length x.rows) c.list.view_is in
    tallied c.args.requests c.args.played c.args.listed c.in_ok-sink.sink list _ c.in_ok-sink.was c.in_ok-list.was
    (record {
      requests_is = search rules;
      counted = λ codes replies.
          let found = c.in_ok-codes.ensures codes (subst (AreReplies codes) (sym c.bytes.ensures) replies) in
          subst (λ (x : List ℕ). AreCounted x counts.ok counts.refused) (c.as_slice.ensures.value ∙ found) c.in-Some.ensures;
      revision = ap (λ (x : ListedData). x.rev) c.list.view_is;
      items = omega (arith, rows, c.len.ensures);
    })
