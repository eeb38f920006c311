use Rattle.std.proofs.Common.{◌++◌, drop, length, List, ℕ, ap, ◌∙◌, arith}
use Rattle.encode_once.proofs.PrefixLemmas.{short, zeros}
use Rattle.encode_once.proofs.prefix.padded.Goals as goal

pub returns : goal.returns
returns c =
    let text = c.args.text.now in
    ap (λ (r : List ℕ). r ++ drop (length text) (zeros 48)) c.copy_from_slice.ensures.after ∙ short 48 text (omega (arith, c.requires))
