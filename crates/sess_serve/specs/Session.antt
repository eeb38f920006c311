-- A whole session, from the bytes that were taken to the bytes that were written.
use Rattle.std.specs.Prelude.{◌≡◌, ℕ, List, fold, map}
use Rattle.std.specs.List.{flat_map}
use Rattle.edge_io.specs.declared.clock.Reading.{Reading}
use Rattle.http_read.specs.declared.request.Req.{Req}
use Rattle.rev_front.specs.Passes.{Authored, Pass}
use Rattle.rev_log.specs.Changes.{RevisionData}
use Rattle.sess_turns.specs.Terms.{Terms}
use Rattle.sess_serve.specs.Wire.{Wire}
use Rattle.sess_serve.specs.Http.{http}
use Rattle.sess_serve.specs.Answers.{acted, answer_readings}
use Rattle.sess_serve.specs.Steps.{Exchange, RunBy, AreAlone}
use Rattle.sess_serve.specs.Ends.{Traffic, EndedBy, Knows, KnowsAloneBy}
use Rattle.sess_serve.specs.declared.ends.SessionEnd.{SessionEnd}

-- the requests that were answered, in the order of their answers
abbrev pub requests_of : List Exchange → List Req
requests_of exchanges = map (λ (e : Exchange). e.request) exchanges

-- the readings of the clock that were taken for the answers, in order
abbrev pub readings_in : List Exchange → List Reading
readings_in exchanges = flat_map (λ (e : Exchange). answer_readings e.answer) exchanges

-- what of the log is the client's own doing after these answers, in order, by what was before
abbrev pub acted_by : List Exchange → Authored → Authored
acted_by exchanges did = fold (λ (so_far : Authored) (e : Exchange). acted e.answer so_far) did exchanges

-- A session that began with pass p and ended with pass q: the answered requests stand in the bytes, in order; each
-- answer stands between two passes; the bytes out and the readings are those of the answers; and the end has its
-- cause. `whole` says that nobody else holds the log and that p knew it whole.
pub record IsSessionBy (wire : Wire) (terms : Terms) (whole : Type 0) (p : Pass RevisionData) (traffic : Traffic) (q : Pass RevisionData) (how : SessionEnd) : Type 0 where
  pub exchanges : List Exchange
  pub last : Pass RevisionData
  pub rest : List ℕ
  pub reads : wire.reads_some traffic.taken (requests_of exchanges) rest
  pub run : RunBy wire terms p exchanges last
  pub knows : Knows how last q
  pub sole : whole → AreAlone terms p exchanges × KnowsAloneBy wire terms how last rest q
  pub readings : traffic.readings ≡ readings_in exchanges
  pub ended : EndedBy wire terms exchanges rest traffic how

-- the same, where the wire is HTTP
abbrev pub IsSession : Terms → Type 0 → Pass RevisionData → Traffic → Pass RevisionData → SessionEnd → Type 0
IsSession = IsSessionBy http
