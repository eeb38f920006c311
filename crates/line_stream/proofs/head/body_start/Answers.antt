use Rattle.std.proofs.Common.{refl, sym, ◌∙◌, inl, inr}
use Rattle.line_stream.proofs.HeadLemmas.{has-response, head-within, chunked-of}
use Rattle.line_stream.proofs.head.body_start.Goals as goal

pub returns-then-found-ne200 : goal.returns-then-found-ne200
returns-then-found-ne200 c =
    let f = c.requires in
    inr (c.args.found.code, refl, (f.head, _, has-response _ _ _ f, sym f.at.code, c.if-found-ne200.true))

pub returns-then-not-says_chunked : goal.returns-then-not-says_chunked
returns-then-not-says_chunked c =
    let f = c.requires in
    inl (refl, (f.head, _, has-response _ _ _ f, sym f.at.code ∙ c.if-found-ne200.false, sym (chunked-of _ _ _ _ _ f c.front_of-front.ensures refl) ∙ sym c.if-not-says_chunked.ensures))

pub returns : goal.returns
returns c =
    let f = c.requires in
    (head-within _ _ _ f, (f.head, has-response _ _ _ f, sym f.at.code ∙ c.if-found-ne200.false, sym (chunked-of _ _ _ _ _ f c.front_of-front.ensures refl) ∙ sym c.if-not-says_chunked.ensures))
