-- The next line of a lawful body, by its text.
use Rattle.std.proofs.Common.{◌≡◌, ℕ, ◌-◌, ◌≤◌, List, [], ◌∷◌, ◌++◌, All, Option, None, Some, false, refl, sym, ap, ◌∙◌, subst, arith}
use Rattle.std.proofs.lemmas.List.Elements.{All-contains, Contains-push, filter_map-append}
use Rattle.json_obj.specs.Replies.{expired_text, bookmark_text}
use Rattle.kube_meta.specs.Objects.{object_json}
use Rattle.kube_meta.specs.Resources.{api_version_of, kind_of}
use Rattle.json_obj.specs.declared.pieces.EventType.TheVariants as types
use Rattle.kube_meta.specs.declared.objects.Obj.{Obj}
use Rattle.kube_meta.specs.declared.resources.Resource.{Resource}
use Rattle.kube_meta.specs.declared.resources.Resource.TheVariants.{Pods}
use Rattle.meta_view.specs.declared.form.Form.TheVariants.{Whole}
use Rattle.rev_log.specs.Changes.{RevisionData}
use Rattle.rev_log.specs.Logs.{Log, end_of, grown}
use Rattle.select_all.specs.declared.selection.Kind.{Kind}
use Rattle.select_all.specs.declared.selection.Kind.TheVariants.{Added, Modified, Deleted}
use Rattle.select_all.specs.declared.selection.Selection.{Selection}
use Rattle.select_all.specs.Streams.{TransitionData}
use Rattle.watch_rules.specs.declared.ask.WatchAsk.{WatchAsk}
use Rattle.watch_rules.specs.Bodies.{Line, Told, Bookmark, Closing, Lost, BeginsBody, told_by, told_in}
use Rattle.watch_lines.specs.Texts.{line_text, type_of}
use Rattle.watch_lines.specs.Laws.{LinesReadBack, IsTold, as_read}
use Rattle.watch_lines.specs.Lines.{IsPeerLine, ReadsPeerLine}
use Rattle.watch_lines.specs.Stored.{IsStored}
use Rattle.watch_lines.specs.declared.peer_line.PeerLine.{PeerLine}
use Rattle.watch_lines.specs.declared.peer_line.PeerLine.TheVariants as peer
use Rattle.watch_lines.proofs.EventLemmas.{same-type}
use Rattle.mirror_law.specs.Following.{Follows, upto_of, kept_after}
use Rattle.mirror_law.specs.Mirrors.{IsMirrorOf, AreToldBy}
use Rattle.mirror_law.specs.Objects.{EachObject}
use Rattle.mirror_law.specs.Taking.{IsTaken, IsNotAbove}
use Rattle.mirror_law.proofs.FollowLemmas.{followings_commit, followings_hear, followings_mark}
use Rattle.mirror_law.proofs.ObjectLemmas.{told_objects}
use Rattle.mirror_law.proofs.TakenLemmas.{lawful_lines_are_taken, lines_are_reached}
use Rattle.mirror_log.specs.declared.take_refusal.TakeNo.{TakeNo}
use Rattle.mirror_log.specs.declared.take_refusal.TakeNo.TheVariants as take
use Rattle.mirror_log.specs.Faults.{event_fault, mark_fault}
use Rattle.mirror_log.specs.Laws.{IsAtMostGap as TakesAtMostGap}
use Rattle.mirror_log.proofs.TakeLemmas.{taken_events_fit, taken_marks_fit}
use Rattle.mirror_link.specs.Laws.{IsAtMostGap, IsLawfulFault}
use Rattle.mirror_link.specs.Lines.{line_fault}
use Rattle.mirror_link.specs.Peers.{IsPeer, IsAskOf}
use Rattle.mirror_link.specs.Refusals.{taking_refusal}
use Rattle.mirror_log.specs.MirrorLogs.{MirrorLogData}
use Rattle.rev_front.specs.Passes.{Pass}
use Rattle.std.specs.Prelude.{option_map}

-- an error tells of no object, and is no bookmark
told_type : (kind : Kind) → ¬ (type_of kind ≡ types.Error)
told_type Added same = cc
told_type Modified same = cc
told_type Deleted same = cc

at_most : (fault : Option TakeNo) → TakesAtMostGap fault → IsAtMostGap (option_map taking_refusal fault)
at_most None fits = tt
at_most (Some take.BadLine) fits = absurd fits
at_most (Some (take.Order last got)) fits = absurd fits
at_most (Some (take.Gap last got)) fits = tt

-- the premises of a line, of which the text was read
pub record Hears (log : Log) (ask : WatchAsk) (log_floor low b from : ℕ) (lines : List Line) (line : Line) (s : Selection) (m : Log) (kept : List TransitionData) (text : List ℕ) : Type 0 where
  pub reads : LinesReadBack
  pub pods : s.resource ≡ Pods
  pub some : 1 ≤ m.first
  pub is : text ≡ line_text Whole Pods line
  pub good : IsPeer log s
  pub asked : IsAskOf s ask from lines
  pub follows : Follows log s b from lines m kept
  pub begins : BeginsBody log log_floor low ask from (lines ++ line ∷ [])

module _ (log : Log) (ask : WatchAsk) (log_floor low b from : ℕ) (lines : List Line) (s : Selection) (m : Log) (kept : List TransitionData) (text : List ℕ) where
  abbrev pub On : Line → Type 0
  On line = Hears log ask log_floor low b from lines line s m kept text

  taken : (line : Line) → On line → IsTaken s m kept line
  taken line h = lawful_lines_are_taken log log_floor low b from s ask lines m kept line h.good.log h.asked.selection h.follows h.asked.past h.begins

  reached : (line : Line) → On line → IsNotAbove (end_of log) line
  reached line h = lines_are_reached log log_floor low b from s ask lines m kept line h.good.log h.asked.selection h.follows h.begins

  -- the mirror's log begins at a revision from 1 on
  begun : (line : Line) → On line → 1 ≤ end_of m
  begun line h = omega (arith, h.some)

  stored : (t : TransitionData) → On (Told t) → IsStored Pods t.obj
  stored t h =
      let each : EachObject (IsStored s.resource) log ask.selection.resource = subst (λ (r : Resource). EachObject (IsStored s.resource) log r) (sym (ap (λ (a : Selection). a.resource) h.asked.selection)) h.good.stored in
      let all = told_objects (IsStored s.resource) log log_floor low from ask (lines ++ Told t ∷ []) each h.begins in
      let told : told_in (lines ++ Told t ∷ []) ≡ told_in lines ++ t ∷ [] = filter_map-append told_by lines (Told t ∷ []) in
      let here : All (λ (u : TransitionData). IsStored s.resource u.obj) (told_in lines ++ t ∷ []) = subst (λ (ts : List TransitionData). All (λ (u : TransitionData). IsStored s.resource u.obj) ts) told all in
      subst (λ (r : Resource). IsStored r t.obj) h.pods (All-contains (λ (u : TransitionData). IsStored s.resource u.obj) (told_in lines ++ t ∷ []) t here (Contains-push (told_in lines) t))

  -- so it can be told
  event_told : (t : TransitionData) → On (Told t) → IsTold Pods (Told t)
  event_told t h = (stored t h, (omega (arith, (taken (Told t) h).above), omega (arith, reached (Told t) h, h.good.log.ends)))

  mark_told : (at : ℕ) → On (Bookmark at) → IsTold Pods (Bookmark at)
  mark_told at h = (omega (arith, (taken (Bookmark at) h).onward, begun (Bookmark at) h), omega (arith, reached (Bookmark at) h, h.good.log.ends))

  -- and is read as what it is
  line_as : (line : Line) (found : PeerLine) → On line → IsTold Pods line → IsPeerLine Pods text found → found ≡ as_read line
  line_as line found h can read = (h.reads Pods line found can).0 (subst (λ (l : List ℕ). IsPeerLine Pods l found) h.is read)

  told_as : (t : TransitionData) (found : PeerLine) → On (Told t) → IsPeerLine Pods text found → found ≡ peer.Told t.kind t.obj t.rev
  told_as t found h read = line_as (Told t) found h (event_told t h) read

  mark_as : (at : ℕ) (found : PeerLine) → On (Bookmark at) → IsPeerLine Pods text found → found ≡ peer.Bookmark at false
  mark_as at found h read = line_as (Bookmark at) found h (mark_told at h) read

  found_as : (line : Line) (found : Option PeerLine) → On line → IsTold Pods line → ReadsPeerLine Pods text found → found ≡ Some (as_read line)
  found_as line None h can none = absurd (none (as_read line) (subst (λ (l : List ℕ). IsPeerLine Pods l (as_read line)) (sym h.is) ((h.reads Pods line (as_read line) can).1 refl)))
  found_as line (Some found) h can read = ap Some (line_as line found h can read)

  -- what is wrong with it is a gap
  pub lawful_fault : (line : Line) (found : Option PeerLine) → On line → ReadsPeerLine Pods text found → (g : ℕ) (p : Pass RevisionData) → IsLawfulFault line (line_fault (record { selection = s; most_gap = g; told = p; log = m; kept = kept }) found)
  lawful_fault (Told t) found h reads g p =
      let at : MirrorLogData = record { selection = s; most_gap = g; told = p; log = m; kept = kept } in
      let fits : IsAtMostGap (line_fault at (Some (as_read (Told t)))) = at_most (event_fault s g m kept t) (taken_events_fit s g m kept t (taken (Told t) h)) in
      subst (λ (f : Option PeerLine). IsAtMostGap (line_fault at f)) (sym (found_as (Told t) found h (event_told t h) reads)) fits
  lawful_fault (Bookmark to) found h reads g p =
      let at : MirrorLogData = record { selection = s; most_gap = g; told = p; log = m; kept = kept } in
      let fits : IsAtMostGap (line_fault at (Some (as_read (Bookmark to)))) = at_most (mark_fault g (end_of m) kept to false) (taken_marks_fit g m kept to (taken (Bookmark to) h)) in
      subst (λ (f : Option PeerLine). IsAtMostGap (line_fault at f)) (sym (found_as (Bookmark to) found h (mark_told to h) reads)) fits
  lawful_fault (Closing to) found h reads g p = absurd (taken (Closing to) h)
  lawful_fault (Lost to floor) found h reads g p = tt

  lost_no_event : (at floor : ℕ) (kind : Kind) (obj : Obj) (rev : ℕ) → On (Lost at floor) → IsPeerLine Pods text (peer.Told kind obj rev) → ⊥
  lost_no_event at floor kind obj rev h read = told_type kind (same-type (type_of kind) types.Error (object_json obj rev) (expired_text at floor) (sym read.2 ∙ h.is))

  lost_no_mark : (at floor : ℕ) (mark : ℕ) → On (Lost at floor) → IsPeerLine Pods text (peer.Bookmark mark false) → ⊥
  lost_no_mark at floor mark h read = let same : types.Bookmark ≡ types.Error = same-type types.Bookmark types.Error (bookmark_text (api_version_of Pods) (kind_of Pods) mark false) (expired_text at floor) (sym read.1 ∙ h.is) in cc

  -- ---- an event

  one : (t : TransitionData) (kind : Kind) (obj : Obj) (rev : ℕ) → peer.Told kind obj rev ≡ peer.Told t.kind t.obj t.rev → t ≡ record { kind = kind; obj = obj; rev = rev }
  one t kind obj rev same =
      let kind_is : t.kind ≡ kind = cc in
      let obj_is : t.obj ≡ obj = cc in
      let rev_is : t.rev ≡ rev = cc in
      λ i. record { kind = kind_is i; obj = obj_is i; rev = rev_is i }

  module _ (kind : Kind) (obj : Obj) (rev : ℕ) (more : List RevisionData) where
    abbrev pub this : TransitionData
    this = record { kind = kind; obj = obj; rev = rev }

    pub event_follows : (line : Line) → On line → IsPeerLine Pods text (peer.Told kind obj rev) → AreToldBy s.resource kept (end_of m) more → end_of (grown m more) ≡ rev - 1
        → Follows log s b from (lines ++ line ∷ []) (grown m more) (kept_after kept (Told this))
    event_follows (Told t) h read told end =
        let same : t ≡ this = one t kind obj rev (told_as t (peer.Told kind obj rev) h read) in
        let end_t : end_of (grown m more) ≡ upto_of (Told t) = end ∙ ap (λ (u : TransitionData). u.rev - 1) (sym same) in
        subst (λ (u : TransitionData). Follows log s b from (lines ++ Told t ∷ []) (grown m more) (kept_after kept (Told u))) same
        (followings_hear log log_floor low b from s ask lines m kept t more h.good.log h.asked.selection h.follows h.begins (taken (Told t) h).above told end_t)
    event_follows (Bookmark at) h read told end = let same = mark_as at (peer.Told kind obj rev) h read in absurd (cc)
    event_follows (Closing at) h read told end = absurd (taken (Closing at) h)
    event_follows (Lost at floor) h read told end = absurd (lost_no_event at floor kind obj rev h read)

    pub event_mirrors : (line : Line) → On line → IsPeerLine Pods text (peer.Told kind obj rev) → AreToldBy s.resource kept (end_of m) more → end_of (grown m more) ≤ rev - 1
        → IsMirrorOf log s b (grown m more)
    event_mirrors (Told t) h read told end =
        let same : t ≡ this = one t kind obj rev (told_as t (peer.Told kind obj rev) h read) in
        let rev_is : t.rev ≡ rev = ap (λ (u : TransitionData). u.rev) same in
        followings_commit log log_floor low b from s ask lines m kept (Told t) more h.good.log h.asked.selection h.follows h.begins (taken (Told t) h).above told (omega (arith, end, rev_is))
    event_mirrors (Bookmark at) h read told end = let same = mark_as at (peer.Told kind obj rev) h read in absurd (cc)
    event_mirrors (Closing at) h read told end = absurd (taken (Closing at) h)
    event_mirrors (Lost at floor) h read told end = absurd (lost_no_event at floor kind obj rev h read)

  -- ---- a bookmark

  module _ (mark : ℕ) (more : List RevisionData) where
    pub mark_follows : (line : Line) → On line → IsPeerLine Pods text (peer.Bookmark mark false) → AreToldBy s.resource kept (end_of m) more → end_of (grown m more) ≡ mark
        → Follows log s b from (lines ++ line ∷ []) (grown m more) (kept_after kept (Bookmark mark))
    mark_follows (Told t) h read told end = let same = told_as t (peer.Bookmark mark false) h read in absurd (cc)
    mark_follows (Bookmark at) h read told end =
        let same : peer.Bookmark mark false ≡ peer.Bookmark at false = mark_as at (peer.Bookmark mark false) h read in
        let at_is : mark ≡ at = cc in
        followings_mark log log_floor low b from s ask lines m kept at more h.good.log h.asked.selection h.follows h.begins (taken (Bookmark at) h).onward told (end ∙ at_is)
    mark_follows (Closing at) h read told end = absurd (taken (Closing at) h)
    mark_follows (Lost at floor) h read told end = absurd (lost_no_mark at floor mark h read)

    pub mark_mirrors : (line : Line) → On line → IsPeerLine Pods text (peer.Bookmark mark false) → AreToldBy s.resource kept (end_of m) more → end_of (grown m more) ≤ mark
        → IsMirrorOf log s b (grown m more)
    mark_mirrors (Told t) h read told end = let same = told_as t (peer.Bookmark mark false) h read in absurd (cc)
    mark_mirrors (Bookmark at) h read told end =
        let same : peer.Bookmark mark false ≡ peer.Bookmark at false = mark_as at (peer.Bookmark mark false) h read in
        let at_is : mark ≡ at = cc in
        followings_commit log log_floor low b from s ask lines m kept (Bookmark at) more h.good.log h.asked.selection h.follows h.begins (taken (Bookmark at) h).onward told (omega (arith, end, at_is))
    mark_mirrors (Closing at) h read told end = absurd (taken (Closing at) h)
    mark_mirrors (Lost at floor) h read told end = absurd (lost_no_mark at floor mark h read)
