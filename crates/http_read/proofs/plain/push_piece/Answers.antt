use Rattle.std.proofs.Common.{refl, subst, sym}
use Rattle.std.specs.Prelude.{IsUtf8}
use Rattle.std.proofs.lemmas.Str.{IsUtf8-from_ascii}
use Rattle.http_read.proofs.PlainLemmas.{plain-piece, itself-ascii, on-ok, appended}
use Rattle.http_read.proofs.plain.push_piece.Goals as goal

pub returns-then-is_sure-clause-text : goal.returns-then-is_sure-clause-text
returns-then-is_sure-clause-text c =
    rw (plain-piece c.args.raw.now (c.if-is_sure.ensures refl)) (appended c.push_str.result _ _ c.args.raw.now (rw (← c.ascii_str.ensures) c.push_str.ensures.bytes))

pub returns-then-is_sure-clause-utf8 : goal.returns-then-is_sure-clause-utf8
returns-then-is_sure-clause-utf8 c =
    on-ok c.push_str.result
    (subst IsUtf8 (sym (plain-piece c.args.raw.now (c.if-is_sure.ensures refl))) (IsUtf8-from_ascii c.args.raw.now (itself-ascii c.args.raw.now (c.if-is_sure.ensures refl))))
