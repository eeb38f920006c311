use Rattle.std.proofs.Common.{refl, sym, ◌∙◌, inl, inr}
use Rattle.line_stream.proofs.HeadLemmas.{has-response, head-within}
use Rattle.line_stream.proofs.FramingLemmas.{framing-of}
use Rattle.line_stream.proofs.head.body_framing.Goals as goal

pub returns-then-found-ne200 : goal.returns-then-found-ne200
returns-then-found-ne200 c =
    let f = c.requires in
    inr (c.args.found.code, refl, (f.head, _, has-response _ _ _ f, sym f.at.code, c.if-found-ne200.true))

pub returns-in-Some : goal.returns-in-Some
returns-in-Some c =
    let f = c.requires in
    (head-within _ _ _ f, (f.head, has-response _ _ _ f, sym f.at.code ∙ c.if-found-ne200.false, sym (framing-of _ _ _ _ _ f c.front_of.ensures refl) ∙ sym c.in-Some.ensures))

pub returns-in-None : goal.returns-in-None
returns-in-None c =
    let f = c.requires in
    inl (refl, (f.head, _, has-response _ _ _ f, sym f.at.code ∙ c.if-found-ne200.false, sym (framing-of _ _ _ _ _ f c.front_of.ensures refl) ∙ sym c.in-None.ensures))
