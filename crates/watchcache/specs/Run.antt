-- What the program does for the words of its command line: its exit status, the bytes that it took and those that it
-- wrote.
use Rattle.std.specs.Prelude.{◌≡◌, ℕ, ◌+◌, ◌<◌, ◌≤◌, ◌⊎◌, List, length, [], Option, Some, None, IfSome, MatchOption, Result, Ok, Err, ⊤}
use Rattle.body_check.specs.Judging.{IsJudged}
use Rattle.body_check.specs.Lists.{IsJudged as IsListsJudged}
use Rattle.body_check.specs.declared.verdict.Verdict.{Verdict}
use Rattle.body_check.specs.declared.verdict.Verdict.TheVariants as some
use Rattle.body_check.specs.declared.judging.Checked.{Checked}
use Rattle.body_check.specs.declared.judging.Checked.TheVariants.{Lawful, Unlawful}
use Rattle.watchcache.specs.Words.{ReadsWords}
use Rattle.watchcache.specs.declared.asked.Asked.{Asked}
use Rattle.watchcache.specs.declared.asked.Asked.TheVariants.{Help, Version, Session, Serve, Load, Check}
use Rattle.watchcache.specs.declared.asked.LoadOptions.{LoadOptions}
use Rattle.watchcache.specs.declared.asked.ServeOptions.{ServeOptions}
use Rattle.watchcache.specs.declared.asked.WordsNo.{WordsNo}
use Rattle.watchcache.specs.declared.noted.Notes.{Notes}
use Rattle.watchcache.specs.declared.unknown.Judged.{Judged}
use Rattle.watchcache.specs.declared.asked.WordsNo.TheVariants.{Bad, Memory}
use Rattle.cluster_link.specs.declared.refusal.ClusterNo.{ClusterNo}
use Rattle.cluster_link.specs.declared.refusal.ClusterNo.TheVariants.{Memory as NoRoom}
use Rattle.edge_io.specs.Counts.{Rose}
use Rattle.edge_io.specs.Sent.{Sent, IsSentOn, IsBrokenOff}
use Rattle.edge_io.specs.Told.{prepended, appended, Noted, IsExhausted}
use Rattle.edge_io.specs.declared.clock.Reading.{Reading}
use Rattle.kube_meta.specs.declared.resources.Resource.{Resource}
use Rattle.kube_meta.specs.declared.resources.Resource.TheVariants.{Pods}
use Rattle.load_gen.specs.Figures.{figure_lines}
use Rattle.load_gen.specs.Loads.{IsLoad}
use Rattle.sess_serve.specs.NewLogs.{new_pass, terms}
use Rattle.load_gen.specs.declared.figures.Figures.{Figures}
use Rattle.mirror_link.specs.Openings.{OpeningData, IsOpeningOf}
use Rattle.mirror_link.specs.Reading.{HasOpening, HasNoOpening}
use Rattle.mirror_link.specs.declared.link_refusal.LinkNo.{LinkNo}
use Rattle.mirror_link.specs.declared.link_refusal.LinkNo.TheVariants.{ReadFault, WriteFault, Memory as NoMemory}
use Rattle.net_front.specs.Ends.{most_connections}
use Rattle.net_front.specs.Starts.{IsOfStart}
use Rattle.rev_front.specs.Passes.{Pass}
use Rattle.rev_log.specs.Changes.{RevisionData}
use Rattle.select_all.specs.Reading.{IsRead}
use Rattle.select_all.specs.declared.selection.Selection.{Selection}
use Rattle.sess_serve.specs.Ends.{UnlessBroken}
use Rattle.sess_serve.specs.Session.{IsSession}
use Rattle.sess_serve.specs.Status.{status_of}
use Rattle.sess_serve.specs.declared.ends.SessionEnd.{SessionEnd}
use Rattle.up_api.specs.declared.settings.Settings.{Settings}
use Rattle.watch_record.specs.Between.{BetweenData, IsBetweenOf, IsNoBetween, most_bytes, watched_of}
use Rattle.watch_record.specs.Lines.{first_line}
use Rattle.watch_record.specs.Records.{record_fault, IsRecordOf}
use Rattle.watch_record.specs.declared.between_refusal.BetweenNo.{BetweenNo}
use Rattle.watch_record.specs.declared.records.Record.{Record}
use Rattle.watch_record.specs.declared.refusals.RecordNo.{RecordNo}
use Rattle.watchcache.specs.Lists.{IsOfReply, SendsList, SendsNoList, first_listed}
use Rattle.watchcache.specs.Texts.{help, version_text, bad_line, sessions, peer_line, cluster_line, verdict, between_verdict}

-- ---- what went through the program's ends

-- what is left to be read, and the readings of the clock, where they are told; whether the source's count of faults
-- rose; and what went through the sink
pub record Ends : Type 1 where
  pub left_old : Option (List ℕ)
  pub left_new : Option (List ℕ)
  pub readings_old : Option (List Reading)
  pub readings_new : Option (List Reading)
  pub read_fault : Type 0
  pub sent : Sent

-- what went through a source, a clock and a sink, by what the first two tell before and after
abbrev pub ends_of : {S T : Type 0} → (S → Option (List ℕ)) → (S → ℕ) → S → S → (T → Option (List Reading)) → T → T → Sent → Ends
ends_of left faults source_old source_new readings clock_old clock_new sent = record {
  left_old = left source_old;
  left_new = left source_new;
  readings_old = readings clock_old;
  readings_new = readings clock_new;
  read_fault = Rose (faults source_old) (faults source_new);
  sent = sent;
}

-- the net's count of faults; how many connections the listener had given that was shut last; whether no more will come
-- to it; what the peer that is dialled first sends, where that is told; and what was asked of the net: at which port it
-- listened, which port was dialled, and how the sessions of that listener were set
pub record NetUse : Type 1 where
  pub faults_old : ℕ
  pub faults_new : ℕ
  pub served_old : ℕ
  pub served_new : ℕ
  pub over : Type 0
  pub peer_old : Option (List ℕ)
  pub notes : Notes

-- how a net was used whose peer sends this, by what it tells before and after, and what was asked of it
abbrev pub use_with : {N : Type 0} → (N → ℕ) → (N → ℕ) → (N → Type 0) → Option (List ℕ) → N → N → Notes → NetUse
use_with faults served ended sends old new notes = record {
  faults_old = faults old;
  faults_new = faults new;
  served_old = served old;
  served_new = served new;
  over = ∥ ended new ∥₁;
  peer_old = sends;
  notes = notes;
}

-- how a net was used, by what it tells before and after, and what was asked of it
abbrev pub use_of : {N : Type 0} → (N → ℕ) → (N → ℕ) → (N → Type 0) → (N → Option (List ℕ)) → N → N → Notes → NetUse
use_of faults served ended peer old new notes = use_with faults served ended (peer old) old new notes

-- nothing was read
abbrev pub IsUnread : Ends → Type 0
IsUnread ends = ends.left_new ≡ ends.left_old

-- nothing was read, and no time
abbrev pub IsIdle : Ends → Type 0
IsIdle ends = IsUnread ends × (ends.readings_new ≡ ends.readings_old)

-- the text was sent on, and the status is `done`; or it was broken off, and the status is 4
abbrev pub IsTold : List ℕ → ℕ → Sent → ℕ → Type 0
IsTold text done sent status = ((status ≡ done) × IsSentOn text sent) ⊎ ((status ≡ 4) × IsBrokenOff text sent)

-- nothing was written, and this is the status
abbrev pub IsSilent : ℕ → Sent → ℕ → Type 0
IsSilent wanted sent status = (sent.written_new ≡ sent.written_old) × (status ≡ wanted)

-- there was no memory: nothing was read or written, and the status is 8
abbrev pub IsUnserved : Ends → ℕ → Type 0
IsUnserved ends status = IsIdle ends × IsSilent 8 ends.sent status

-- ---- one session

-- one session in these settings, of a client that holds a new log alone; nothing is held back where it wasn't broken
-- off
pub record IsSessionRun (settings : Settings) (ends : Ends) (status : ℕ) : Type 0 where
  pub taken : List ℕ
  pub written : List ℕ
  pub readings : List Reading
  pub seat : ℕ
  pub last : Pass RevisionData
  pub how : SessionEnd
  pub source : ends.left_old ≡ prepended taken ends.left_new
  pub sink : ends.sent.written_new ≡ appended ends.sent.written_old written
  pub clock : Noted ends.readings_old ends.readings_new readings
  pub session : IsSession (terms settings) (Unit {0}) (new_pass seat)
      (record { taken = taken; written = written; readings = readings; read_fault = ends.read_fault; write_fault = Rose ends.sent.faults_old ends.sent.faults_new; left = ends.left_new })
      last how
  pub settled : ends.sent.settled_old → UnlessBroken how ends.sent.settled_new
  pub status_is : status ≡ status_of how

-- a session, or there was no memory to begin it
abbrev pub RunsSession : Settings → Ends → ℕ → Type 0
RunsSession settings ends status = IsSessionRun settings ends status ⊎ IsUnserved ends status

-- ---- a load

-- the figures of a session of these requests were told
pub record IsLoadTold (options : LoadOptions) (sent : Sent) (status : ℕ) : Type 0 where
  pub figures : Figures
  pub is_load : IsLoad options.from options.requests figures
  pub told : IsTold (figure_lines figures) 0 sent status

-- a load: its figures were told, or there was no memory for it
abbrev pub TellsLoad : LoadOptions → Sent → ℕ → Type 0
TellsLoad options sent status = IsLoadTold options sent status ⊎ IsSilent 8 sent status

-- ---- a server

-- the net's count of faults rose
abbrev pub HasFailed : NetUse → Type 0
HasFailed net = net.faults_old < net.faults_new

-- how many sessions were served was told, and the status is 0, or 4 where that was broken off; and 9 where the net
-- failed
abbrev pub TellsSessions : NetUse → Sent → ℕ → Type 0
TellsSessions net sent status =
    ((net.faults_new ≡ net.faults_old) × IsTold (sessions net.served_new) 0 sent status)
    ⊎ (HasFailed net × (status ≡ 9) × (IsSentOn (sessions net.served_new) sent ⊎ IsBrokenOff (sessions net.served_new) sent))

-- a server ended that listened at its port, and whose sessions were all set as it is: no more connections will come,
-- the net failed, or as many were accepted as were asked for
pub record IsServerOver (options : ServeOptions) (net : NetUse) (sent : Sent) (status : ℕ) : Type 0 where
  pub port : net.notes.listened ≡ Some options.port
  pub settings : net.notes.settings ≡ Some options.settings
  pub ended : net.over ⊎ HasFailed net ⊎ (most_connections options.connections ≤ net.served_new)
  pub told : TellsSessions net sent status

-- it told nothing and no listener was shut, as the net failed or there was no memory
abbrev pub IsUnstarted : NetUse → Sent → ℕ → Type 0
IsUnstarted net sent status =
    (net.served_new ≡ net.served_old)
    × ((HasFailed net × IsSilent 9 sent status) ⊎ ((net.faults_new ≡ net.faults_old) × IsSilent 8 sent status))

-- what came of a server: it ended, or it never started
abbrev pub RunsServer : ServeOptions → NetUse → Sent → ℕ → Type 0
RunsServer options net sent status = IsServerOver options net sent status ⊎ IsUnstarted net sent status

-- ---- a server that begins with what another one sends

-- what is told where that has no such beginning: a line for the reason, which is one of those that the bytes give
abbrev pub TellsNone : {W : Type 0} → (W → Type 0) → (W → List ℕ) → W → NetUse → Sent → ℕ → Type 0
TellsNone IsOf line why net sent status =
    IsOf why × ((net.faults_new ≡ net.faults_old) × (net.served_new ≡ net.served_old)) × IsTold (line why) 13 sent status

-- a beginning is refused: why is told, or its connection failed, or there was no memory
abbrev pub Refuses : {W : Type 0} → (W → Type 0) → (W → List ℕ) → W → NetUse → Sent → ℕ → Type 0
Refuses IsOf line why net sent status = TellsNone IsOf line why net sent status ⊎ IsUnstarted net sent status

-- what the first connection that is dialled sends, at this port, is such a beginning, and was served
pub record IsMirrored (Has : List ℕ → Type 0) (port : Option ℕ) (options : ServeOptions) (net : NetUse) (sent : Sent) (status : ℕ) : Type 0 where
  pub dialled : net.notes.dialled ≡ port
  pub opened : IfSome net.peer_old Has
  pub served : IsServerOver options net sent status

-- it isn't, and why was told
pub record IsUnopened (W : Type 0) (Lacks : W → List ℕ → Type 0) (IsOf : W → Type 0) (line : W → List ℕ) (port : Option ℕ) (net : NetUse) (sent : Sent) (status : ℕ) : Type 0 where
  pub why : W
  pub dialled : net.notes.dialled ≡ port
  pub sends : IfSome net.peer_old (Lacks why)
  pub told : TellsNone IsOf line why net sent status

-- what came of a server that begins with what is sent at a port: it ended; or it didn't start, as there is no such
-- beginning, the net failed, which a connection that breaks off counts as, or there was no memory
abbrev pub RunsFrom : (List ℕ → Type 0) → (W : Type 0) → (W → List ℕ → Type 0) → (W → Type 0) → (W → List ℕ) → Option ℕ → ServeOptions → NetUse → Sent → ℕ → Type 0
RunsFrom Has W Lacks IsOf line port options net sent status =
    IsMirrored Has port options net sent status ⊎ (IsUnopened W Lacks IsOf line port net sent status ⊎ IsUnstarted net sent status)

-- ---- a server that mirrors a peer

-- a selection of all pods
abbrev pub IsOfAllPods : Selection → Type 0
IsOfAllPods s = IsRead Pods None [] [] s

-- what the peer sends begins with an opening of all its pods
pub record SendsOpening (bytes : List ℕ) : Type 0 where
  pub taken : List ℕ
  pub left : Option (List ℕ)
  pub opening : OpeningData
  pub of_all : IsOfAllPods opening.selection
  pub lawful : IsOpeningOf opening
  pub front : Some bytes ≡ prepended taken left
  pub has : HasOpening taken opening

-- it doesn't, for this reason
pub record SendsNone (why : LinkNo) (bytes : List ℕ) : Type 0 where
  pub taken : List ℕ
  pub left : Option (List ℕ)
  pub selection : Selection
  pub of_all : IsOfAllPods selection
  pub front : Some bytes ≡ prepended taken left
  pub fault : HasNoOpening selection taken left why

-- the reason is one of those that the peer's bytes give
abbrev pub IsOfBytes : LinkNo → Type 0
IsOfBytes ReadFault = ⊥
IsOfBytes WriteFault = ⊥
IsOfBytes NoMemory = ⊥
IsOfBytes why = ⊤

-- what a peer sends is opened, where what was read of it is an opening, or refused
abbrev pub Opens : Option (List ℕ) → Result OpeningData LinkNo → Type 0
Opens sends (Ok opening) = IsOpeningOf opening → IfSome sends SendsOpening
Opens sends (Err why) = IsOfBytes why → IfSome sends (SendsNone why)

-- what came of a server that mirrors a peer
abbrev pub RunsMirror : ServeOptions → NetUse → Sent → ℕ → Type 0
RunsMirror options net sent status = RunsFrom SendsOpening LinkNo SendsNone IsOfBytes peer_line options.peer options net sent status

-- ---- a server that mirrors a cluster

-- what is told of a resource that has no mirror though it has a list; nothing, where there was no memory
abbrev pub TellsStart : Resource → ClusterNo → Sent → ℕ → Type 0
TellsStart resource NoRoom sent status = IsSilent 8 sent status
TellsStart resource why sent status = IsTold (cluster_line resource why) 13 sent status

-- one of its resources has no mirror, and why was told: behind the list that came first, for a reason of the mirror's,
-- or it is another one
pub record IsUnmirrored (options : ServeOptions) (net : NetUse) (sent : Sent) (status : ℕ) : Type 0 where
  pub resource : Resource
  pub why : ClusterNo
  pub other : (¬ (resource ≡ first_listed options.resources)) ⊎ IsOfStart why
  pub told : TellsNone IsOfReply (cluster_line resource) why net sent status

-- what came of a server behind its first list
abbrev pub RunsListed : ServeOptions → NetUse → Sent → ℕ → Type 0
RunsListed options net sent status = RunsServer options net sent status ⊎ IsUnmirrored options net sent status

-- the first list was there, at this port, but one of its resources has no mirror
pub record IsHalted (Has : List ℕ → Type 0) (port : Option ℕ) (options : ServeOptions) (net : NetUse) (sent : Sent) (status : ℕ) : Type 0 where
  pub dialled : net.notes.dialled ≡ port
  pub opened : IfSome net.peer_old Has
  pub halted : IsUnmirrored options net sent status

-- what came of a server that mirrors resources of a cluster, in a namespace or in all
abbrev pub RunsCluster : Option (List ℕ) → ServeOptions → NetUse → Sent → ℕ → Type 0
RunsCluster namespace options net sent status =
    RunsFrom (SendsList (first_listed options.resources) namespace) ClusterNo (SendsNoList (first_listed options.resources) namespace) IsOfReply
    (cluster_line (first_listed options.resources)) options.cluster options net sent status
    ⊎ IsHalted (SendsList (first_listed options.resources) namespace) options.cluster options net sent status

-- what came of a server, by whether it has a peer, or a cluster
abbrev pub RunsAny : Option ℕ → Option ℕ → Option (List ℕ) → ServeOptions → NetUse → Sent → ℕ → Type 0
RunsAny None None namespace options net sent status = RunsServer options net sent status
RunsAny None (Some cluster) namespace options net sent status = RunsCluster namespace options net sent status
RunsAny (Some peer) cluster namespace options net sent status = RunsMirror options net sent status

-- ---- a check

-- the bytes are a record that is judged so, or they are none for this reason
abbrev pub IsSaid : List ℕ → Result Checked RecordNo → Type 0
IsSaid bytes (Ok judgement) = (record_fault bytes ≡ None) × ((case : Record) × IsRecordOf bytes case × IsJudged case judgement)
IsSaid bytes (Err fault) = record_fault bytes ≡ Some fault

-- the exit status, where that was sent on
abbrev pub status_of_verdict : Result Checked RecordNo → ℕ
status_of_verdict (Ok (Lawful at to)) = 0
status_of_verdict (Ok (Unlawful line)) = 11
status_of_verdict (Err fault) = 12

-- the bytes are a record of what is known of an unknown log, which is judged so, or they are none for this reason
abbrev pub IsSaidBetween : List ℕ → Result Judged BetweenNo → Type 0
IsSaidBetween bytes (Ok judged) =
    (case : BetweenData) × IsBetweenOf bytes case × (judged.lists ≡ length case.later) × IsListsJudged case judged.verdict
IsSaidBetween bytes (Err fault) = IsNoBetween bytes fault

-- the exit status behind a judgement of lists
abbrev pub status_of_lists : Verdict → ℕ
status_of_lists (some.Lawful from to held) = 0
status_of_lists (some.BadLine line) = 11
status_of_lists (some.BadList list) = 11

-- that, or the one of bytes that are no record
abbrev pub status_of_between : Result Judged BetweenNo → ℕ
status_of_between (Ok judged) = status_of_lists judged.verdict
status_of_between (Err fault) = 12

-- the first line is the header of a record of an unknown log: then what is true of that was told
abbrev pub ChecksUnknown : List ℕ → Sent → ℕ → Type 0
ChecksUnknown bytes sent status =
    (judged : Result Judged BetweenNo) × IsSaidBetween bytes judged × IsTold (between_verdict judged) (status_of_between judged) sent status

-- else what is true of the bytes as a record of a log
abbrev pub ChecksLogged : List ℕ → Sent → ℕ → Type 0
ChecksLogged bytes sent status =
    (judged : Result Checked RecordNo) × IsSaid bytes judged × IsTold (verdict judged) (status_of_verdict judged) sent status

-- what is true of the bytes was told, or there was no memory
abbrev pub ChecksBytes : List ℕ → Sent → ℕ → Type 0
ChecksBytes bytes sent status =
    MatchOption (watched_of (first_line bytes)) (ChecksLogged bytes sent status) (λ header. ChecksUnknown bytes sent status)
    ⊎ IsSilent 8 sent status

-- all bytes of the source were read, or one more than a record has, and checked
pub record IsChecked (left left_new : Option (List ℕ)) (sent : Sent) (status : ℕ) : Type 0 where
  pub taken : List ℕ
  pub source : left ≡ prepended taken left_new
  pub whole : IsExhausted left_new ⊎ (most_bytes < length taken)
  pub few : length taken ≤ most_bytes + 1
  pub checked : ChecksBytes taken sent status

-- the source was checked, or it failed, or there was no memory for its bytes
abbrev pub ChecksSource : Option (List ℕ) → Option (List ℕ) → Type 0 → Sent → ℕ → Type 0
ChecksSource left left_new read_fault sent status =
    IsChecked left left_new sent status ⊎ ((read_fault × IsSilent 3 sent status) ⊎ IsSilent 8 sent status)

-- ---- the program

-- the net isn't used
abbrev pub IsUnused : NetUse → Type 0
IsUnused net = (net.faults_new ≡ net.faults_old) × (net.served_new ≡ net.served_old)

-- what is done for what the words ask for, or where they ask for nothing
abbrev pub Does : Result Asked WordsNo → Ends → NetUse → ℕ → Type 0
Does (Ok Help) ends net status = IsUnused net × IsIdle ends × IsTold help 0 ends.sent status
Does (Ok Version) ends net status = IsUnused net × IsIdle ends × IsTold version_text 0 ends.sent status
Does (Ok (Session settings)) ends net status = IsUnused net × RunsSession settings ends status
Does (Ok (Serve ask)) ends net status = IsUnread ends × RunsAny ask.options.peer ask.options.cluster ask.namespace ask.options net ends.sent status
Does (Ok (Load options)) ends net status = IsUnused net × IsIdle ends × TellsLoad options ends.sent status
Does (Ok Check) ends net status =
    IsUnused net × (ends.readings_new ≡ ends.readings_old)
    × ChecksSource ends.left_old ends.left_new ends.read_fault ends.sent status
Does (Err (Bad fault)) ends net status = IsUnused net × IsIdle ends × IsTold bad_line 2 ends.sent status
Does (Err Memory) ends net status = IsUnused net × IsUnserved ends status

-- what the program does: the words are read as clap reads them, and what they ask for is done
pub record IsRun (words : List (List ℕ)) (ends : Ends) (net : NetUse) (status : ℕ) : Type 0 where
  pub asked : Result Asked WordsNo
  pub read : ReadsWords words asked
  pub done : Does asked ends net status
