-- A reader, as contracts see it.
use Rattle.std.specs.Prelude.{ℕ, List, Option}
use Rattle.http_read.specs.declared.refusal.ReqNo.{ReqNo}

-- the bytes that it took beyond its last request, and the refusal that it keeps
pub record ReaderState : Type 0 where
  pub kept : List ℕ
  pub refusal : Option ReqNo
