-- A connection that was served.
use Rattle.std.specs.Prelude.{◌≡◌, ℕ, List, Option}
use Rattle.edge_io.specs.Counts.{Rose}
use Rattle.edge_io.specs.Told.{prepended, appended}
use Rattle.edge_io.specs.declared.clock.Reading.{Reading}
use Rattle.kube_meta.specs.declared.resources.Resource.{Resource}
use Rattle.rev_front.specs.Passes.{Pass}
use Rattle.rev_log.specs.Changes.{RevisionData}
use Rattle.sess_serve.specs.Each.{IsEachSession, Strand}
use Rattle.sess_serve.specs.Session.{IsSession}
use Rattle.sess_serve.specs.declared.ends.SessionEnd.{SessionEnd}
use Rattle.sess_turns.specs.Terms.{Terms}

-- the ends of a connection: what is left in its source and was written to its sink, where they tell it, and how many
-- faults each has counted
pub record VisitEnds : Type 0 where
  pub left : Option (List ℕ)
  pub source_faults : ℕ
  pub written : Option (List ℕ)
  pub sink_faults : ℕ

abbrev pub visit_ends : Option (List ℕ) → ℕ → Option (List ℕ) → ℕ → VisitEnds
visit_ends left source_faults written sink_faults =
    record { left = left; source_faults = source_faults; written = written; sink_faults = sink_faults }

-- a session stands between the pass that a client had and one that it came to, and it is all that went through the ends
-- of the connection: it took its bytes from the source, wrote its bytes to the sink, and counted their faults
pub record IsVisit (terms : Terms) (whole : Type 0) (p : Pass RevisionData) (old new : VisitEnds) (how : SessionEnd) : Type 0 where
  pub taken : List ℕ
  pub sent : List ℕ
  pub readings : List Reading
  pub last : Pass RevisionData
  pub source : old.left ≡ prepended taken new.left
  pub sink : new.written ≡ appended old.written sent
  pub session : IsSession terms whole p
      (record {
        taken = taken;
        written = sent;
        readings = readings;
        read_fault = Rose old.source_faults new.source_faults;
        write_fault = Rose old.sink_faults new.sink_faults;
        left = new.left;
      })
      last how

-- the same of a session over three logs, one of each resource; it has a strand on each between the pass that its client
-- had and one that it came to
pub record IsEachVisit (strands_to : Pass RevisionData → Pass RevisionData → Pass RevisionData → Resource → Strand) (old new : VisitEnds) (how : SessionEnd) : Type 0 where
  pub taken : List ℕ
  pub sent : List ℕ
  pub readings : List Reading
  pub pods : Pass RevisionData
  pub config_maps : Pass RevisionData
  pub deployments : Pass RevisionData
  pub source : old.left ≡ prepended taken new.left
  pub sink : new.written ≡ appended old.written sent
  pub session : IsEachSession (strands_to pods config_maps deployments)
      (record {
        taken = taken;
        written = sent;
        readings = readings;
        read_fault = Rose old.source_faults new.source_faults;
        write_fault = Rose old.sink_faults new.sink_faults;
        left = new.left;
      })
      how
