-- What is read behind an opening is what lawful pieces tell.
use Rattle.std.proofs.Common.{◌≡◌, ℕ, ◌<◌, ◌≤◌, max, inl, inr, Bool, IsTrue, List, [], ◌∷◌, ◌++◌, map, Option, Some, None, IfSome, refl, sym, ap, ◌∙◌, subst, append_assoc, arith}
use Rattle.std.specs.List.{AllByRecursion}
use Rattle.std.proofs.lemmas.Bool.{cases_lt}
use Rattle.std.proofs.lemmas.List.{map-append}
use Rattle.rev_log.specs.Logs.{Log, IsLog, end_of}
use Rattle.select_all.specs.declared.selection.Selection.{Selection}
use Rattle.select_all.specs.Selecting.{selects}
use Rattle.select_all.specs.Streams.{TransitionData, transitions}
use Rattle.select_all.proofs.StreamLaws.{transitions_are_joined, no_transitions}
use Rattle.select_all.proofs.EventLaws.{all_append}
use Rattle.watch_rules.specs.Bodies.{Line, Told, Bookmark, Lost, BodyPiece, Upto, Mark, reached_by, piece_lines, loss_lines, ArePieces}
use Rattle.body_check.specs.Reading.{Course, highest, IsMark, IsLoss, Reads}
use Rattle.body_check.proofs.Order.{BeginsAbove, cut, Rise, rise-from, untold_within, untold_rises}

-- the course of a start over a log, where lines have these texts
abbrev pub course : Log → (Line → List ℕ) → Bool → (ℕ → ℕ → Bool) → ℕ → Course
course log text marks is_lost at = record {
  told = λ t. text (Told t);
  mark = λ p. text (Bookmark p);
  lost = λ p floor. text (Lost p floor);
  marks = marks;
  end = end_of log;
  stop = max at (end_of log);
  is_lost = is_lost;
}

module _ (log : Log) (s : Selection) (text : Line → List ℕ) (marks : Bool) (is_lost : ℕ → ℕ → Bool) where
  -- lawful pieces from q on, and maybe a loss, have these texts and reach p
  pub record Goes (q : ℕ) (texts : List (List ℕ)) (p : ℕ) : Type 0 where
    pub pieces : List BodyPiece
    pub loss : Option ℕ
    pub are : ArePieces log marks q pieces
    pub borne : IfSome loss (λ floor. IsTrue (is_lost p floor))
    pub texts_are : texts ≡ map text (piece_lines log s q pieces ++ loss_lines p loss)
    pub reached : p ≡ reached_by q pieces

  abbrev pub untold : ℕ → List TransitionData
  untold q = transitions log s q (end_of log)

  abbrev pub texts_of : List TransitionData → List (List ℕ)
  texts_of ts = map text (map Told ts)

  goes_nowhere : (p : ℕ) → Goes p [] p
  goes_nowhere p = record { pieces = []; loss = None; are = tt; borne = tt; texts_are = refl; reached = refl }

  goes_lost : (p floor : ℕ) → IsTrue (is_lost p floor) → Goes p (text (Lost p floor) ∷ []) p
  goes_lost p floor borne = record { pieces = []; loss = Some floor; are = tt; borne = borne; texts_are = refl; reached = refl }

  goes_marked : (q : ℕ) (xs : List (List ℕ)) (p : ℕ) → IsTrue marks → q ≤ end_of log → Goes q xs p → Goes q (text (Bookmark q) ∷ xs) p
  goes_marked q xs p wanted within goes = record {
    pieces = Mark ∷ goes.pieces;
    loss = goes.loss;
    are = (wanted, within, goes.are);
    borne = goes.borne;
    texts_are = ap (λ (l : List (List ℕ)). text (Bookmark q) ∷ l) goes.texts_are;
    reached = goes.reached;
  }

  joined_texts : (ts : List TransitionData) (first last : List Line) → map text (map Told ts ++ first ++ last) ≡ texts_of ts ++ map text (first ++ last)
  joined_texts ts first last = ap (map text) (append_assoc (map Told ts) first last) ∙ map-append text (map Told ts) (first ++ last)

  goes_up : (q to : ℕ) (xs : List (List ℕ)) (p : ℕ) → q ≤ to → to ≤ end_of log → Goes to xs p → Goes q (texts_of (transitions log s q to) ++ xs) p
  goes_up q to xs p onward within goes = record {
    pieces = Upto to ∷ goes.pieces;
    loss = goes.loss;
    are = (onward, within, goes.are);
    borne = goes.borne;
    texts_are =
        ap (λ (l : List (List ℕ)). texts_of (transitions log s q to) ++ l) goes.texts_are
        ∙ sym (joined_texts (transitions log s q to) (piece_lines log s to goes.pieces) (loss_lines p goes.loss));
    reached = goes.reached;
  }

module _ (log : Log) (is : IsLog log) (s : Selection) (text : Line → List ℕ) (marks : Bool) (is_lost : ℕ → ℕ → Bool) (at : ℕ) where
  abbrev c : Course
  c = course log text marks is_lost at

  -- ---- what is read is what pieces tell

  begins_above : (b end : ℕ) (rest : List TransitionData) → AllByRecursion (λ (t : TransitionData). (b < t.rev) × (t.rev ≤ end)) rest → BeginsAbove b rest
  begins_above b end [] all = tt
  begins_above b end (t ∷ more) all = all.0.0

  first_of_all : (b end : ℕ) → AllByRecursion (λ (t : TransitionData). (b < t.rev) × (t.rev ≤ end)) (transitions log s b end)
  first_of_all b end = untold_within (selects s) log s.resource is b end

  lower_all : (low b : ℕ) (ts : List TransitionData) → low ≤ b → AllByRecursion (λ (t : TransitionData). t.rev ≤ low) ts → AllByRecursion (λ (t : TransitionData). t.rev ≤ b) ts
  lower_all low b [] le all = tt
  lower_all low b (t ∷ ts) le all = (omega (arith, all.0), lower_all low b ts le all.1)

  upto_all : (a b : ℕ) (ts : List TransitionData) → AllByRecursion (λ (t : TransitionData). (a < t.rev) × (t.rev ≤ b)) ts → AllByRecursion (λ (t : TransitionData). t.rev ≤ b) ts
  upto_all a b [] all = tt
  upto_all a b (t ∷ ts) all = (all.0.1, upto_all a b ts all.1)

  above_highest : (low b : ℕ) (rest : List TransitionData) → Rise low (end_of log) rest → b ≤ highest c rest → BeginsAbove b rest
  above_highest low b [] rise le = tt
  above_highest low b (t ∷ more) rise le = omega (arith, rise.1)

  -- ts were told since the position was q, and rest is untold
  record Stands (q : ℕ) (ts rest : List TransitionData) (low : ℕ) : Type 0 where
    all : ts ++ rest ≡ untold log s text marks is_lost q
    begun : at ≤ q
    onward : q ≤ low
    told : AllByRecursion (λ (t : TransitionData). t.rev ≤ low) ts
    rise : Rise low (end_of log) rest

  -- there is one stretch up to a position where the rest is still untold
  stretch : (q : ℕ) (ts rest : List TransitionData) (low b : ℕ) → Stands q ts rest low → low ≤ b → b ≤ highest c rest
      → (rest ≡ untold log s text marks is_lost b) × ((xs : List (List ℕ)) (p : ℕ) → Goes log s text marks is_lost b xs p → Goes log s text marks is_lost q (texts_of log s text marks is_lost ts ++ xs) p)
  stretch q ts rest low b stands le high = elim (cases_lt (end_of log) b) [
    | inl past ↦ beyond rest ts stands.all stands.rise high past
    | inr within ↦
        let joined = transitions_are_joined (selects s) log s.resource q b (end_of log) (omega (arith, stands.onward)) within in
        let parts = cut b ts rest (transitions log s q b) (transitions log s b (end_of log)) (stands.all ∙ sym joined)
        (lower_all low b ts le stands.told) (upto_all q b (transitions log s q b) (first_of_all q b))
        (above_highest low b rest stands.rise high) (begins_above b (end_of log) (transitions log s b (end_of log)) (first_of_all b (end_of log))) in (
          parts.1,
          λ xs p goes. subst (λ (l : List TransitionData). Goes log s text marks is_lost q (texts_of log s text marks is_lost l ++ xs) p) (sym parts.0)
              (goes_up log s text marks is_lost q b xs p (omega (arith, stands.onward)) within goes),
        )
  ]
    where
      beyond : (others told : List TransitionData) → told ++ others ≡ untold log s text marks is_lost q → Rise low (end_of log) others → b ≤ highest c others → end_of log < b
          → (others ≡ untold log s text marks is_lost b) × ((xs : List (List ℕ)) (p : ℕ) → Goes log s text marks is_lost b xs p → Goes log s text marks is_lost q (texts_of log s text marks is_lost told ++ xs) p)
      beyond [] [] e rise up past =
          let same : q ≡ b = omega (arith, stands.begun, stands.onward) in
          (sym (no_transitions (selects s) log s.resource b (end_of log) (omega arith)), λ xs p goes. subst (λ (n : ℕ). Goes log s text marks is_lost n xs p) (sym same) goes)
      beyond [] (t ∷ told) e rise up past =
          let same : q ≡ b = omega (arith, stands.begun, stands.onward) in
          let none : untold log s text marks is_lost q ≡ [] = no_transitions (selects s) log s.resource q (end_of log) (omega arith) in
          let bad : t ∷ told ++ [] ≡ [] = e ∙ none in
          absurd (cc)
      beyond (t ∷ more) told e rise up past = absurd (omega (arith, rise.2))

  snoc_texts : (ts : List TransitionData) (t : TransitionData) (xs : List (List ℕ)) → texts_of log s text marks is_lost (ts ++ t ∷ []) ++ xs ≡ texts_of log s text marks is_lost ts ++ text (Told t) ∷ xs
  snoc_texts [] t xs = refl
  snoc_texts (u ∷ ts) t xs = ap (λ (l : List (List ℕ)). text (Told u) ∷ l) (snoc_texts ts t xs)

  snoc : (ts : List TransitionData) (t : TransitionData) (more : List TransitionData) → (ts ++ t ∷ []) ++ more ≡ ts ++ t ∷ more
  snoc [] t more = refl
  snoc (u ∷ ts) t more = ap (λ (l : List TransitionData). u ∷ l) (snoc ts t more)

  -- a bookmark after a stretch, and a loss
  after_mark : (q : ℕ) (ts rest : List TransitionData) (low b : ℕ) (x : List ℕ) (xs : List (List ℕ)) (p : ℕ) → Stands q ts rest low → IsMark c rest low x b
      → Goes log s text marks is_lost b xs p → Goes log s text marks is_lost q (texts_of log s text marks is_lost ts ++ x ∷ xs) p
  after_mark q ts rest low b x xs p stands mark goes =
      (stretch q ts rest low b stands mark.onward mark.within).1 (x ∷ xs) p
      (subst (λ (y : List ℕ). Goes log s text marks is_lost b (y ∷ xs) p) (sym mark.text_is) (goes_marked log s text marks is_lost b xs p mark.wanted mark.reached goes))

  after_loss : (q : ℕ) (ts rest : List TransitionData) (low : ℕ) (x : List ℕ) (xs : List (List ℕ)) (p : ℕ) → Stands q ts rest low → IsLoss c rest low x p → xs ≡ []
      → Goes log s text marks is_lost q (texts_of log s text marks is_lost ts ++ x ∷ xs) p
  after_loss q ts rest low x xs p stands loss none =
      (stretch q ts rest low p stands loss.onward loss.within).1 (x ∷ xs) p
      (subst (λ (ys : List (List ℕ)). Goes log s text marks is_lost p (x ∷ ys) p) (sym none)
      (subst (λ (y : List ℕ). Goes log s text marks is_lost p (y ∷ []) p) (sym loss.text_is) (goes_lost log s text marks is_lost p loss.floor loss.borne)))

  stands_at : (q : ℕ) (ts rest : List TransitionData) (low b : ℕ) → Stands q ts rest low → low ≤ b → b ≤ highest c rest → Stands b [] rest b
  stands_at q ts rest low b stands le high = record {
    all = (stretch q ts rest low b stands le high).0;
    begun = omega (arith, stands.begun, stands.onward);
    onward = omega arith;
    told = tt;
    rise = rise-from low b (end_of log) rest (above_highest low b rest stands.rise high) stands.rise;
  }

  stands_told : (q : ℕ) (ts : List TransitionData) (t : TransitionData) (more : List TransitionData) (low : ℕ) → Stands q ts (t ∷ more) low → Stands q (ts ++ t ∷ []) more t.rev
  stands_told q ts t more low stands = record {
    all = snoc ts t more ∙ stands.all;
    begun = stands.begun;
    onward = omega (arith, stands.onward, stands.rise.0);
    told = all_append (λ (u : TransitionData). u.rev ≤ t.rev) ts (t ∷ []) (lower_all low t.rev ts stands.rise.0 stands.told) (omega arith, tt);
    rise = stands.rise.3;
  }

  reads_goes : (texts : List (List ℕ)) (q : ℕ) (ts rest : List TransitionData) (low p : ℕ) → Stands q ts rest low → Reads c rest low texts p
      → Goes log s text marks is_lost q (texts_of log s text marks is_lost ts ++ texts) p
  reads_goes [] q ts rest low p stands reads = (stretch q ts rest low p stands reads.0 reads.1).1 [] p (goes_nowhere log s text marks is_lost p)
  reads_goes (x ∷ xs) q ts [] low p stands (inl mark) =
      after_mark q ts [] low mark.0 x xs p stands mark.1 (reads_goes xs mark.0 [] [] mark.0 p (stands_at q ts [] low mark.0 stands mark.1.onward mark.1.within) mark.2)
  reads_goes (x ∷ xs) q ts [] low p stands (inr loss) = after_loss q ts [] low x xs p stands loss.0 loss.1
  reads_goes (x ∷ xs) q ts (t ∷ more) low p stands (inl told) =
      subst (λ (y : List ℕ). Goes log s text marks is_lost q (texts_of log s text marks is_lost ts ++ y ∷ xs) p) (sym told.0)
      (subst (λ (l : List (List ℕ)). Goes log s text marks is_lost q l p) (snoc_texts ts t xs)
      (reads_goes xs q (ts ++ t ∷ []) more t.rev p (stands_told q ts t more low stands) told.1))
  reads_goes (x ∷ xs) q ts (t ∷ more) low p stands (inr (inl mark)) =
      after_mark q ts (t ∷ more) low mark.0 x xs p stands mark.1 (reads_goes xs mark.0 [] (t ∷ more) mark.0 p (stands_at q ts (t ∷ more) low mark.0 stands mark.1.onward mark.1.within) mark.2)
  reads_goes (x ∷ xs) q ts (t ∷ more) low p stands (inr (inr loss)) = after_loss q ts (t ∷ more) low x xs p stands loss.0 loss.1

  -- ---- what pieces tell is read

  lower_mark : (rest : List TransitionData) (low to : ℕ) (x : List ℕ) (b : ℕ) → low ≤ to → IsMark c rest to x b → IsMark c rest low x b
  lower_mark rest low to x b le mark = record { text_is = mark.text_is; wanted = mark.wanted; onward = omega (arith, mark.onward); within = mark.within; reached = mark.reached }

  lower_loss : (rest : List TransitionData) (low to : ℕ) (x : List ℕ) (b : ℕ) → low ≤ to → IsLoss c rest to x b → IsLoss c rest low x b
  lower_loss rest low to x b le loss = record { floor = loss.floor; text_is = loss.text_is; onward = omega (arith, loss.onward); within = loss.within; borne = loss.borne }

  -- what is read from a later position is read from an earlier one
  lower : (texts : List (List ℕ)) (rest : List TransitionData) (low to p : ℕ) → low ≤ to → Reads c rest to texts p → Reads c rest low texts p
  lower [] rest low to p le reads = (omega (arith, reads.0), reads.1)
  lower (x ∷ xs) [] low to p le (inl mark) = inl (mark.0, lower_mark [] low to x mark.0 le mark.1, mark.2)
  lower (x ∷ xs) [] low to p le (inr loss) = inr (lower_loss [] low to x p le loss.0, loss.1)
  lower (x ∷ xs) (t ∷ more) low to p le (inl told) = inl told
  lower (x ∷ xs) (t ∷ more) low to p le (inr (inl mark)) = inr (inl (mark.0, lower_mark (t ∷ more) low to x mark.0 le mark.1, mark.2))
  lower (x ∷ xs) (t ∷ more) low to p le (inr (inr loss)) = inr (inr (lower_loss (t ∷ more) low to x p le loss.0, loss.1))

  push : (ts rest : List TransitionData) (low to : ℕ) (xs : List (List ℕ)) (p : ℕ) → low ≤ to → AllByRecursion (λ (t : TransitionData). t.rev ≤ to) ts
      → Reads c rest to xs p → Reads c (ts ++ rest) low (texts_of log s text marks is_lost ts ++ xs) p
  push [] rest low to xs p le all reads = lower xs rest low to p le reads
  push (t ∷ ts) rest low to xs p le all reads = inl (refl, push ts rest t.rev to xs p all.0 all.1 reads)

  highest_untold : (q : ℕ) → q ≤ c.stop → q ≤ highest c (untold log s text marks is_lost q)
  highest_untold q le = from (untold log s text marks is_lost q) (first_of_all q (end_of log))
    where
      from : (rest : List TransitionData) → AllByRecursion (λ (t : TransitionData). (q < t.rev) × (t.rev ≤ end_of log)) rest → q ≤ highest c rest
      from [] all = le
      from (t ∷ more) all = omega (arith, all.0.0)

  last_lines : (q : ℕ) (loss : Option ℕ) → q ≤ c.stop → IfSome loss (λ floor. IsTrue (is_lost q floor)) → Reads c (untold log s text marks is_lost q) q (map text (loss_lines q loss)) q
  last_lines q None le borne = (omega arith, highest_untold q le)
  last_lines q (Some floor) le borne =
      lost_here (untold log s text marks is_lost q) (record { floor = floor; text_is = refl; onward = omega arith; within = highest_untold q le; borne = borne })
    where
      lost_here : (rest : List TransitionData) → IsLoss c rest q (text (Lost q floor)) q → Reads c rest q (text (Lost q floor) ∷ []) q
      lost_here [] loss = inr (loss, refl)
      lost_here (t ∷ more) loss = inr (inr (loss, refl))

  mark_then : (rest : List TransitionData) (q : ℕ) (x : List ℕ) (xs : List (List ℕ)) (p : ℕ) → IsMark c rest q x q → Reads c rest q xs p → Reads c rest q (x ∷ xs) p
  mark_then [] q x xs p mark reads = inl (q, mark, reads)
  mark_then (t ∷ more) q x xs p mark reads = inr (inl (q, mark, reads))

  pieces_read : (pieces : List BodyPiece) (q : ℕ) (loss : Option ℕ) → q ≤ c.stop → ArePieces log marks q pieces
      → IfSome loss (λ floor. IsTrue (is_lost (reached_by q pieces) floor))
      → Reads c (untold log s text marks is_lost q) q (map text (piece_lines log s q pieces ++ loss_lines (reached_by q pieces) loss)) (reached_by q pieces)
  pieces_read [] q loss le are borne = last_lines q loss le borne
  pieces_read (Upto to ∷ more) q loss le are borne =
      let next = pieces_read more to loss (omega (arith, are.1)) are.2 borne in
      let joined = transitions_are_joined (selects s) log s.resource q to (end_of log) are.0 are.1 in
      let last : List Line = loss_lines (reached_by to more) loss in
      subst (λ (l : List TransitionData). Reads c l q (map text (piece_lines log s q (Upto to ∷ more) ++ last)) (reached_by to more)) joined
      (subst (λ (l : List (List ℕ)). Reads c (transitions log s q to ++ untold log s text marks is_lost to) q l (reached_by to more))
      (sym (joined_texts log s text marks is_lost (transitions log s q to) (piece_lines log s to more) last))
      (push (transitions log s q to) (untold log s text marks is_lost to) q to (map text (piece_lines log s to more ++ last)) (reached_by to more) are.0 (upto_all q to (transitions log s q to) (first_of_all q to)) next))
  pieces_read (Mark ∷ more) q loss le are borne =
      mark_then (untold log s text marks is_lost q) q (text (Bookmark q)) (map text (piece_lines log s q more ++ loss_lines (reached_by q more) loss)) (reached_by q more)
      (record { text_is = refl; wanted = are.0; onward = omega arith; within = highest_untold q le; reached = are.1 })
      (pieces_read more q loss le are.2 borne)

  pub goes_reads : (q : ℕ) (texts : List (List ℕ)) (p : ℕ) → q ≤ c.stop → Goes log s text marks is_lost q texts p → Reads c (untold log s text marks is_lost q) q texts p
  goes_reads q texts p le goes =
      subst (λ (l : List (List ℕ)). Reads c (untold log s text marks is_lost q) q l p) (sym goes.texts_are)
      (subst (λ (n : ℕ). Reads c (untold log s text marks is_lost q) q (map text (piece_lines log s q goes.pieces ++ loss_lines n goes.loss)) n) (sym goes.reached)
      (pieces_read goes.pieces q goes.loss le goes.are (subst (λ (n : ℕ). IfSome goes.loss (λ floor. IsTrue (is_lost n floor))) goes.reached goes.borne)))

  -- at the start nothing is told
  pub starts_reads : (texts : List (List ℕ)) (p : ℕ) → Goes log s text marks is_lost at texts p → Reads c (untold log s text marks is_lost at) at texts p
  starts_reads texts p goes = goes_reads at texts p (omega arith) goes

  pub reads_start : (texts : List (List ℕ)) (p : ℕ) → Reads c (untold log s text marks is_lost at) at texts p → Goes log s text marks is_lost at texts p
  reads_start texts p reads = reads_goes texts at [] (untold log s text marks is_lost at) at p
      (record { all = refl; begun = omega arith; onward = omega arith; told = tt; rise = untold_rises (selects s) log s.resource is at (end_of log) }) reads
