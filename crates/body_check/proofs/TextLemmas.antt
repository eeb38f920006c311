-- What texts tell, and that nothing comes behind a loss.
use Rattle.std.proofs.Common.{◌≡◌, ℕ, Bool, true, false, List, [], ◌∷◌, ◌++◌, map, Option, Some, None, refl, sym, ap, ◌∙◌, subst, append_assoc, inl, inr}
use Rattle.std.specs.Prelude.{◌||◌}
use Rattle.std.specs.List.{list_any}
use Rattle.std.proofs.lemmas.Bool.{cases_Bool}
use Rattle.std.proofs.lemmas.List.{append-nil}
use Rattle.kube_meta.specs.declared.objects.Obj.{Obj}
use Rattle.kube_meta.specs.declared.resources.Resource.{Resource}
use Rattle.rev_log.specs.Logs.{Log}
use Rattle.select_all.specs.declared.selection.Selection.{Selection}
use Rattle.select_all.specs.declared.selection.Kind.{Kind}
use Rattle.select_all.specs.Streams.{TransitionData, transitions}
use Rattle.watch_lines.specs.Laws.{as_read}
use Rattle.watch_lines.specs.ValueLaws.{TextsTellOneLine}
use Rattle.watch_lines.specs.Values.{TellsByValue}
use Rattle.watch_lines.specs.declared.peer_line.PeerLine.{PeerLine}
use Rattle.watch_lines.specs.declared.peer_line.PeerLine.TheVariants as peer
use Rattle.watch_rules.specs.declared.ask.WatchAsk.{WatchAsk}
use Rattle.watch_rules.specs.declared.starts.Start.TheVariants.{FromRevision}
use Rattle.watch_rules.specs.Bodies.{Line, Told, Bookmark, Closing, Lost, BodyPiece, Upto, Mark, Body, opening_lines, piece_lines, loss_lines, position_of, TellsBody, AreOpen, is_loss}
use Rattle.body_check.specs.Lists.{TellEach}
use Rattle.body_check.specs.Texts.{TextsTellOneBody, LossesAreLast}
use Rattle.body_check.proofs.EndLemmas.{none_listed}
use Rattle.body_check.proofs.WalkLemmas.{no_closing}

-- ---- a text tells one line

same_event : (t u : TransitionData) → peer.Told t.kind t.obj t.rev ≡ peer.Told u.kind u.obj u.rev → Told t ≡ Told u
same_event t u same =
    let kinds : t.kind ≡ u.kind = cc in
    let objs : t.obj ≡ u.obj = cc in
    let revs : t.rev ≡ u.rev = cc in
    λ i. Told (record { kind = kinds i; obj = objs i; rev = revs i })

same_line : (l o : Line) → is_loss l ≡ false → as_read l ≡ as_read o → l ≡ o
same_line (Told t) (Told u) free same = same_event t u same
same_line (Told t) (Bookmark at) free same = absurd (cc)
same_line (Told t) (Closing at) free same = absurd (cc)
same_line (Told t) (Lost at floor) free same = absurd (cc)
same_line (Bookmark n) (Told u) free same = absurd (cc)
same_line (Bookmark n) (Bookmark at) free same = let numbers : n ≡ at = cc in ap (λ (k : ℕ). Bookmark k) numbers
same_line (Bookmark n) (Closing at) free same = absurd (let bad : false ≡ true = cc in cc)
same_line (Bookmark n) (Lost at floor) free same = absurd (cc)
same_line (Closing n) (Told u) free same = absurd (cc)
same_line (Closing n) (Bookmark at) free same = absurd (let bad : true ≡ false = cc in cc)
same_line (Closing n) (Closing at) free same = let numbers : n ≡ at = cc in ap (λ (k : ℕ). Closing k) numbers
same_line (Closing n) (Lost at floor) free same = absurd (cc)
same_line (Lost n floor) o free same = absurd (let bad : true ≡ false = free in cc)

open_parts : (l : Line) (lines : List Line) → AreOpen (l ∷ lines) → (is_loss l ≡ false) × AreOpen lines
open_parts l lines free = parts (is_loss l) (list_any is_loss lines) free
  where
    parts : (a b : Bool) → (a || b) ≡ false → (a ≡ false) × (b ≡ false)
    parts true b none = absurd (let bad : true ≡ false = none in cc)
    parts false b none = (refl, none)

pub one_body : TextsTellOneLine → TextsTellOneBody
one_body law resource [] [] [] tells told free = refl
one_body law resource [] [] (o ∷ others) tells told free = absurd told
one_body law resource [] (l ∷ lines) others tells told free = absurd tells
one_body law resource (text ∷ texts) [] others tells told free = absurd tells
one_body law resource (text ∷ texts) (l ∷ lines) [] tells told free = absurd told
one_body law resource (text ∷ texts) (l ∷ lines) (o ∷ others) tells told free =
    let parts = open_parts l lines free in
    let first : l ≡ o = same_line l o parts.0 (law resource text (as_read l) (as_read o) tells.0 told.0) in
    ap (λ (x : Line). x ∷ lines) first ∙ ap (λ (xs : List Line). o ∷ xs) (one_body law resource texts lines others tells.1 told.1 parts.1)

-- ---- nothing comes behind a loss

any_append : (xs ys : List Line) → list_any is_loss (xs ++ ys) ≡ (list_any is_loss xs || list_any is_loss ys)
any_append [] ys = refl
any_append (x ∷ xs) ys = elim (cases_Bool (is_loss x)) [
  | inl here ↦ rw here refl
  | inr other ↦ rw other (any_append xs ys)
]

events_open : (ts : List TransitionData) → list_any is_loss (map Told ts) ≡ false
events_open [] = refl
events_open (t ∷ ts) = events_open ts

pieces_open : (log : Log) (s : Selection) (from : ℕ) (pieces : List BodyPiece) → list_any is_loss (piece_lines log s from pieces) ≡ false
pieces_open log s from [] = refl
pieces_open log s from (Upto to ∷ more) =
    any_append (map Told (transitions log s from to)) (piece_lines log s to more)
    ∙ ap (λ (b : Bool). b || list_any is_loss (piece_lines log s to more)) (events_open (transitions log s from to))
    ∙ pieces_open log s to more
pieces_open log s from (Mark ∷ more) = pieces_open log s from more

not_empty : (xs ys : List Line) (x : Line) → [] ≡ xs ++ x ∷ ys → ⊥
not_empty [] ys x same = cc
not_empty (y ∷ xs) ys x same = cc

-- a loss before the last line is among those before the last
before_last : (all xs : List Line) (z l y : Line) (ys : List Line) → all ++ z ∷ [] ≡ xs ++ l ∷ y ∷ ys → is_loss l ≡ true → list_any is_loss all ≡ true
before_last [] [] z l y ys same lost = absurd (let bad : [] ≡ y ∷ ys = cc in cc)
before_last [] (x ∷ xs) z l y ys same lost = absurd (let bad : [] ≡ xs ++ l ∷ y ∷ ys = cc in not_empty xs (y ∷ ys) l bad)
before_last (a ∷ all) [] z l y ys same lost =
    let first : a ≡ l = cc in
    let lossy : is_loss a ≡ true = ap is_loss first ∙ lost in
    rw lossy refl
before_last (a ∷ all) (x ∷ xs) z l y ys same lost =
    let rest : all ++ z ∷ [] ≡ xs ++ l ∷ y ∷ ys = cc in
    let more : list_any is_loss all ≡ true = before_last all xs z l y ys rest lost in
    elim (cases_Bool (is_loss a)) [ inl here ↦ rw here refl | inr other ↦ rw other more ]

among : (xs ys : List Line) (l : Line) → is_loss l ≡ true → list_any is_loss (xs ++ l ∷ ys) ≡ true
among [] ys l lost = rw lost refl
among (x ∷ xs) ys l lost = elim (cases_Bool (is_loss x)) [ inl here ↦ rw here refl | inr other ↦ rw other (among xs ys l lost) ]

split : (pieces : List Line) (position : ℕ) (loss : Option ℕ) (lines : List Line) (at floor : ℕ) (line : Line) (more : List Line) → list_any is_loss pieces ≡ false
    → lines ++ Lost at floor ∷ line ∷ more ≡ pieces ++ loss_lines position loss → ⊥
split pieces position None lines at floor line more free same =
    let lossy : list_any is_loss (pieces ++ []) ≡ true = sym (ap (list_any is_loss) same) ∙ among lines (line ∷ more) (Lost at floor) refl in
    let bad : true ≡ false = sym lossy ∙ ap (list_any is_loss) (append-nil pieces) ∙ free in
    cc
split pieces position (Some n) lines at floor line more free same =
    let lossy : list_any is_loss pieces ≡ true = before_last pieces lines (Lost position n) (Lost at floor) line more (sym same) refl in
    let bad : true ≡ false = sym lossy ∙ free in
    cc

pub losses_are_last : LossesAreLast
losses_are_last log log_floor low from ask lines position floor line more p start tells =
    let body : Body = tells.body in
    let none : body.rows ≡ [] = none_listed log ask.selection ask.start from body.at body.rows start tells.lawful.opening in
    let opening : opening_lines ask body.at body.rows ≡ [] = ap (opening_lines ask body.at) none ∙ no_closing ask from body.at start in
    let pieces : List Line = piece_lines log ask.selection body.at body.pieces in
    split (piece_lines log ask.selection body.at body.pieces) (position_of body) body.loss lines position floor line more (pieces_open log ask.selection body.at body.pieces)
    (tells.lines_are ∙ ap (λ (l : List Line). l ++ pieces ++ loss_lines (position_of body) body.loss) opening)
