use Rattle.std.proofs.Common.{◌≡◌, ℕ, codes, length, arith}
use Rattle.load_gen.specs.Requests.{host, numbered, object_text}
use Rattle.load_gen.proofs.DrawLemmas.{with_object}
use Rattle.load_gen.proofs.requests.LoadRequest.put_object.Goals as goal

pub returns : goal.returns
returns c =
    let object = c.in_ok-object.object in
    let size : c.len.result ≡ length object.items = omega (arith, c.len.ensures, object.ok.0) in
    let e = with_object c.args.bytes.now.items c.put.new.bytes.items c.put_numbered.new.bytes.items c.put-2.new.bytes.items host (codes "\r\n\r\n") object.items (object_text c.args.self.now) (λ (n : ℕ). numbered (codes "Content-Length: ") n) c.len.result c.in_ok-put.ensures c.in_ok-put_numbered.ensures c.in_ok-put-2.ensures c.in_ok-object.ensures size in
    rw e at (rw c.as_slice.ensures.value at c.put-3.ensures)
