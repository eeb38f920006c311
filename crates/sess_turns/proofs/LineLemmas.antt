-- Lines that are written one after the other.
use Rattle.std.proofs.Common.{◌≡◌, ℕ, ◌<◌, ◌≤◌, Bool, true, false, List, [], ◌∷◌, ◌++◌, length, take, drop, map, get_or, suc, ap, sym, ◌∙◌, append-nil, take_all, arith, Err}
use Rattle.std.specs.Prelude.{Option, Result, IsErrAnd, if◌then◌else◌}
use Rattle.std.specs.List.{flat_map}
use Rattle.std.proofs.lemmas.Grind.{flat_map-append}
use Rattle.std.proofs.lemmas.List.Folds.{flat_map-map}
use Rattle.std.proofs.Math.Seq.{take-suc}
use Rattle.edge_io.proofs.PieceLemmas.{flat_map-at}
use Rattle.edge_io.specs.Sent.{IsWrittenOut}
use Rattle.edge_io.proofs.SentLemmas.{sent_of, bytes_of, written-behind}
use Rattle.kube_meta.specs.declared.resources.Resource.{Resource}
use Rattle.kube_meta.specs.Rows.{RowData}
use Rattle.select_all.specs.Streams.{TransitionData}
use Rattle.watch_rules.specs.declared.ask.WatchAsk.{WatchAsk}
use Rattle.watch_rules.specs.Bodies.{Line, Told, Bookmark, Closing, initial, initial_lines, opening_lines}
use Rattle.client_api.specs.Answers.{BegunData}
use Rattle.sess_reply.specs.Sending.{Emits}
use Rattle.sess_reply.specs.declared.broken.Broken.{Broken}
use Rattle.sess_reply.proofs.SendLemmas.{emits-error, emits-first, emits-as, emits-behind}
use Rattle.sess_turns.specs.declared.view.View.{View}
use Rattle.sess_turns.specs.Streams.{frame_of, frames_of}
use Rattle.sess_turns.proofs.WritingLemmas.{written-as}

-- the first texts are written out, and then maybe the next one, or a beginning of it
module _ {X : Type 0} (f : X → List ℕ) (xs : List X) (text : List ℕ) (is : text ≡ flat_map f xs) (a b : Option (List ℕ)) (k l : ℕ) (i : ℕ)
    (before : IsWrittenOut (flat_map f (take i xs)) (bytes_of a b k l)) where
  pub lines-broken : (A : Type 0) {B : Type 0} (r : Result B Broken) (why : Broken) (c : Option (List ℕ)) (s t u : Type 0) (m : ℕ) (x : X)
      → i < length xs → IsErrAnd r (λ e. e ≡ why) → Emits {A = A} (Err why) (f (get_or xs i x)) (sent_of b c t u l m) → Emits r text (sent_of a c s u k m)
  lines-broken A r why c s t u m x more failed p =
      let first = flat_map f (take i xs) in
      let here = f (get_or xs i x) in
      let later = flat_map f (drop (suc i) xs) in
      emits-error A r why text (sent_of a c s u k m) failed
      (emits-as {A = A} (Err why) (first ++ (here ++ later)) text (sent_of a c s u k m) (sym (is ∙ flat_map-at f xs i x more))
      (emits-behind {A = A} (Err why) a b c s t u k l m first (here ++ later) before (emits-first A why here later (sent_of b c t u l m) p)))

  pub lines-next : (c : Option (List ℕ)) (m : ℕ) (x : X) (j : ℕ) → j ≡ suc i → i < length xs
      → IsWrittenOut (f (get_or xs i x)) (bytes_of b c l m) → IsWrittenOut (flat_map f (take j xs)) (bytes_of a c k m)
  lines-next c m x j e more p =
      written-as a c k m (flat_map f (take i xs) ++ f (get_or xs i x)) (flat_map f (take j xs))
      (ap (λ l. flat_map f (take i xs) ++ l) (sym (append-nil (f (get_or xs i x)))) ∙ sym (flat_map-append f (take i xs) (get_or xs i x ∷ []))
      ∙ ap (flat_map f) (sym (take-suc xs i x more) ∙ ap (λ (n : ℕ). take n xs) (sym e)))
      (written-behind a b c k l m (flat_map f (take i xs)) (f (get_or xs i x)) before p)

  pub lines-sent : length xs ≤ i → IsWrittenOut text (bytes_of a b k l)
  lines-sent all = written-as a b k l (flat_map f (take i xs)) text (ap (flat_map f) (take_all i xs all) ∙ sym is) before

-- the frames of the lines of a turn, and of initial lines
pub told-frames : (view : View) (resource : Resource) (lines : List TransitionData) → frames_of view resource (map Told lines) ≡ flat_map (λ line. frame_of view resource (Told line)) lines
told-frames view resource lines = flat_map-map (frame_of view resource) Told lines

pub initial-frames : {X : Type 0} (row : X → RowData) (view : View) (resource : Resource) (objects : List X) →
    frames_of view resource (initial_lines (map row objects)) ≡ flat_map (λ object. frame_of view resource (Told (initial (row object)))) objects
initial-frames row view resource objects =
    flat_map-map (frame_of view resource) (λ r. Told (initial r)) (map row objects)
    ∙ flat_map-map (λ r. frame_of view resource (Told (initial r))) row objects

-- a bookmark behind other lines, where there is one
pub closing-frames : (view : View) (resource : Resource) (lines : List Line) (at : ℕ) (closing : Bool) →
    frames_of view resource lines ++ (if closing then frame_of view resource (Closing at) else [])
    ≡ frames_of view resource (lines ++ (if closing then Closing at ∷ [] else []))
closing-frames view resource lines at true =
    sym (flat_map-append (frame_of view resource) lines (Closing at ∷ []) ∙ ap (λ l. frames_of view resource lines ++ l) (append-nil (frame_of view resource (Closing at))))
closing-frames view resource lines at false = sym (flat_map-append (frame_of view resource) lines [])

-- the opening: the initial lines, and the bookmark that ends them where one is asked for
pub opening-frames : (view : View) (ask : WatchAsk) (begun : BegunData) (at : ℕ) (rows : List RowData) → record { at = at; rows = rows } ≡ begun →
    frames_of view ask.selection.resource (initial_lines rows) ++ (if ask.closing then frame_of view ask.selection.resource (Closing at) else [])
    ≡ frames_of view ask.selection.resource (opening_lines ask begun.at begun.rows)
opening-frames view ask begun at rows is =
    closing-frames view ask.selection.resource (initial_lines rows) at ask.closing
    ∙ ap (λ (b : BegunData). frames_of view ask.selection.resource (opening_lines ask b.at b.rows)) is

-- a text that is asked for
pub asked-is : (text : List ℕ) (asked : Bool) → asked ≡ true → text ≡ (if asked then text else [])
asked-is text asked e = grind arith

-- the bookmark of a quiet turn that is due
pub due-frames : (view : View) (resource : Resource) (upto : ℕ) (due : Bool) → due ≡ true
    → frame_of view resource (Bookmark upto) ++ [] ≡ frames_of view resource (if due then Bookmark upto ∷ [] else [])
due-frames view resource upto due e = grind arith
