-- What a line behind an opening is, by what was read of it.
use Rattle.std.proofs.Common.{◌≡◌, ◌≢◌, ℕ, ◌+◌, ◌-◌, ◌^◌, ◌<◌, ◌≤◌, max, Bool, true, false, eqb, leb, List, [], ◌∷◌, length, take, drop, get_or, inl, inr, Option, Some, None, sym, ap, ◌∙◌, subst, arith}
use Rattle.std.specs.Prelude.{if◌then◌else◌}
use Rattle.std.proofs.lemmas.Bool.{cases_lt, cases_Bool, eq-eqb, ne_eqb, le-leb, lt-leb}
use Rattle.std.proofs.lemmas.List.{at_drop_more, take_rest, drop_all, length-drop}
use Rattle.std.proofs.lemmas.List.Elements.{All-head, All-tail}
use Rattle.meta_view.specs.declared.form.Form.TheVariants.{Whole}
use Rattle.meta_view.specs.Lines.{object_line, bookmark_line, expired_line}
use Rattle.kube_meta.specs.declared.objects.Obj.{Obj}
use Rattle.select_all.specs.declared.selection.Kind.{Kind}
use Rattle.watch_lines.specs.Texts.{type_of}
use Rattle.rev_log.specs.Logs.{end_of}
use Rattle.select_all.specs.Streams.{TransitionData}
use Rattle.watch_record.specs.declared.records.Record.{Record}
use Rattle.watch_rules.specs.Bodies.{Told}
use Rattle.watch_lines.proofs.ApartLemmas.{told_no_mark, told_no_loss, mark_no_loss, marks_apart, losses_apart, floors_apart}
use Rattle.body_check.specs.declared.found.Found.{Found}
use Rattle.body_check.specs.declared.found.Found.TheVariants.{Reached, Broken}
use Rattle.body_check.specs.Courses.{text_in, course_of}
use Rattle.body_check.specs.Findings.{IsFound, later}
use Rattle.body_check.specs.Judging.{record_log}
use Rattle.body_check.specs.Losses.{is_lost}
use Rattle.body_check.specs.Reading.{Course, highest, IsMark, IsLoss, IsNext, IsUnderWay, Reads, AreToldApart}
use Rattle.body_check.specs.Steps.{MarksAt, LosesAt, IsOneWith, GoesOn, EndsAt}
use Rattle.body_check.proofs.LossLemmas.{lost_within}
use Rattle.body_check.proofs.Findings.{later-adds}
use Rattle.body_check.proofs.Reading.{found_told, found_mark, found_lost, found_past, found_neither, found_whole, found_within}

module _ (case : Record) where
  lost_low : (at floor : ℕ) → is_lost (record_log case) case.floor case.window case.ask.selection.resource at floor ≡ true → (at ≤ 2 ^ 62) × (floor ≤ 2 ^ 62)
  lost_low at floor is =
      let within = lost_within (record_log case) case.ask.selection.resource case.floor case.window at floor case.floor_in_range.1 is in
      (omega (arith, within.0, within.1, case.ends), omega (arith, within.1, case.ends))

  -- the texts of a record's lines are told apart
  pub apart_of : (at : ℕ) → AreToldApart (course_of case at)
  apart_of at = record {
    told_mark = λ t p e. told_no_mark t.kind t.obj t.rev case.ask.selection.resource p false e;
    told_lost = λ t p floor e. told_no_loss t.kind t.obj t.rev p floor e;
    mark_lost = λ p other floor e. mark_no_loss case.ask.selection.resource p false other floor e;
    marks = λ p other low other_low e. marks_apart case.ask.selection.resource false p other (omega (arith, low, case.ends)) (omega (arith, other_low, case.ends)) e;
    losses = λ p floor other other_floor borne other_borne e. losses_apart p floor other other_floor (lost_low p floor borne).0 (lost_low other other_floor other_borne).0 e;
  }

  -- ---- bookmarks

  pub marks_none : (low high : ℕ) (text : List ℕ) → ((n : ℕ) → n ≤ 2 ^ 62 → text ≢ bookmark_line Whole case.ask.selection.resource n false) → (n : ℕ) → MarksAt case low high text n → ⊥
  marks_none low high text none n mark = none n (omega (arith, mark.reached, case.ends)) mark.text_is

  pub marks_then : (low high : ℕ) (text : List ℕ) (at end : ℕ) (r : Option ℕ) → case.ask.bookmarks ≡ true → at ≤ 2 ^ 62 → text ≡ bookmark_line Whole case.ask.selection.resource at false
      → (low ≤ at) × (at ≤ high) → end ≡ end_of (record_log case) → r ≡ (if leb at end then Some at else None) → IsOneWith (MarksAt case low high text) r
  marks_then low high text at end r wanted small is from end_is r_is = elim (cases_lt end at) [
    | inl past ↦
        let none : r ≡ None = r_is ∙ ap (λ (b : Bool). if b then Some at else None) (lt-leb at end past) in
        subst (IsOneWith (MarksAt case low high text)) (sym none) (λ n mark.
        let same : n ≡ at = marks_apart case.ask.selection.resource false n at (omega (arith, mark.reached, case.ends)) small (sym mark.text_is ∙ is) in
        omega (arith, same, mark.reached, end_is, past))
    | inr within ↦
        let some : r ≡ Some at = r_is ∙ ap (λ (b : Bool). if b then Some at else None) (le-leb at end within) in
        subst (IsOneWith (MarksAt case low high text)) (sym some) (record { text_is = is; wanted = wanted; onward = from.0; within = from.1; reached = omega (arith, end_is, within) })
  ]

  pub marks_else : (low high : ℕ) (text : List ℕ) (at : ℕ) → at ≤ 2 ^ 62 → text ≡ bookmark_line Whole case.ask.selection.resource at false
      → ((low ≤ at) × (at ≤ high) → ⊥) → (n : ℕ) → MarksAt case low high text n → ⊥
  marks_else low high text at small is out n mark =
      let same : n ≡ at = marks_apart case.ask.selection.resource false n at (omega (arith, mark.reached, case.ends)) small (sym mark.text_is ∙ is) in
      out (omega (arith, same, mark.onward), omega (arith, same, mark.within))

  -- ---- losses

  pub loses_none : (low high : ℕ) (text : List ℕ) → ((at floor : ℕ) → at ≤ 2 ^ 62 → floor ≤ 2 ^ 62 → text ≢ expired_line at floor) → (n : ℕ) → LosesAt case low high text n → ⊥
  loses_none low high text none n loss = let small = lost_low n loss.floor loss.borne in none n loss.floor small.0 small.1 loss.text_is

  pub loses_then : (low high : ℕ) (text : List ℕ) (at floor : ℕ) (r : Option ℕ) → at ≤ 2 ^ 62 → floor ≤ 2 ^ 62 → text ≡ expired_line at floor → (low ≤ at) × (at ≤ high)
      → r ≡ (if is_lost (record_log case) case.floor case.window case.ask.selection.resource at floor then Some at else None) → IsOneWith (LosesAt case low high text) r
  loses_then low high text at floor r small floor_small is from r_is = elim (cases_Bool (is_lost (record_log case) case.floor case.window case.ask.selection.resource at floor)) [
    | inl borne ↦
        let some : r ≡ Some at = r_is ∙ ap (λ (b : Bool). if b then Some at else None) borne in
        subst (IsOneWith (LosesAt case low high text)) (sym some) (record { floor = floor; text_is = is; onward = from.0; within = from.1; borne = borne })
    | inr not ↦
        let none : r ≡ None = r_is ∙ ap (λ (b : Bool). if b then Some at else None) not in
        subst (IsOneWith (LosesAt case low high text)) (sym none) (λ n loss.
        let lows = lost_low n loss.floor loss.borne in
        let same : n ≡ at = losses_apart n loss.floor at floor lows.0 small (sym loss.text_is ∙ is) in
        let floors : loss.floor ≡ floor = floors_apart n loss.floor at floor lows.1 floor_small (sym loss.text_is ∙ is) in
        let bad : true ≡ false = sym loss.borne ∙ ap (λ (m : ℕ). is_lost (record_log case) case.floor case.window case.ask.selection.resource m loss.floor) same
        ∙ ap (λ (m : ℕ). is_lost (record_log case) case.floor case.window case.ask.selection.resource at m) floors ∙ not in
        cc)
  ]

  pub loses_out : (low high : ℕ) (text : List ℕ) (at floor : ℕ) → at ≤ 2 ^ 62 → text ≡ expired_line at floor → ((low ≤ at) × (at ≤ high) → ⊥) → (n : ℕ) → LosesAt case low high text n → ⊥
  loses_out low high text at floor small is out n loss =
      let same : n ≡ at = losses_apart n loss.floor at floor (lost_low n loss.floor loss.borne).0 small (sym loss.text_is ∙ is) in
      out (omega (arith, same, loss.onward), omega (arith, same, loss.within))

  -- ---- what the line is

  pub goes_told : (at : ℕ) (t : TransitionData) (more : List TransitionData) (low : ℕ) (text : List ℕ) → text ≡ text_in case (Told t) → IsUnderWay (course_of case at) (t ∷ more) low
      → GoesOn (course_of case at) (t ∷ more) low text more t.rev
  goes_told at t more low text is under = record {
    found = λ texts r found. found_told (course_of case at) (apart_of at) t more low text texts r is found;
    under_way = record {
      position = All-head (λ (u : TransitionData). u.rev ≤ max at (end_of (record_log case))) t more under.untold;
      untold = All-tail (λ (u : TransitionData). u.rev ≤ max at (end_of (record_log case))) t more under.untold;
    };
  }

  as_mark : (at : ℕ) (rest : List TransitionData) (low high : ℕ) (text : List ℕ) (p : ℕ) → high ≡ highest (course_of case at) rest → MarksAt case low high text p → IsMark (course_of case at) rest low text p
  as_mark at rest low high text p top mark = record { text_is = mark.text_is; wanted = mark.wanted; onward = mark.onward; within = subst (λ (n : ℕ). p ≤ n) top mark.within; reached = mark.reached }

  from_mark : (at : ℕ) (rest : List TransitionData) (low high : ℕ) (text : List ℕ) (p : ℕ) → high ≡ highest (course_of case at) rest → IsMark (course_of case at) rest low text p → MarksAt case low high text p
  from_mark at rest low high text p top mark = record { text_is = mark.text_is; wanted = mark.wanted; onward = mark.onward; within = subst (λ (n : ℕ). p ≤ n) (sym top) mark.within; reached = mark.reached }

  as_loss : (at : ℕ) (rest : List TransitionData) (low high : ℕ) (text : List ℕ) (p : ℕ) → high ≡ highest (course_of case at) rest → LosesAt case low high text p → IsLoss (course_of case at) rest low text p
  as_loss at rest low high text p top loss = record { floor = loss.floor; text_is = loss.text_is; onward = loss.onward; within = subst (λ (n : ℕ). p ≤ n) top loss.within; borne = loss.borne }

  from_loss : (at : ℕ) (rest : List TransitionData) (low high : ℕ) (text : List ℕ) (p : ℕ) → high ≡ highest (course_of case at) rest → IsLoss (course_of case at) rest low text p → LosesAt case low high text p
  from_loss at rest low high text p top loss = record { floor = loss.floor; text_is = loss.text_is; onward = loss.onward; within = subst (λ (n : ℕ). p ≤ n) (sym top) loss.within; borne = loss.borne }

  pub goes_marked : (at : ℕ) (rest : List TransitionData) (low high : ℕ) (text : List ℕ) (p : ℕ) → high ≡ highest (course_of case at) rest → MarksAt case low high text p
      → IsUnderWay (course_of case at) rest low → GoesOn (course_of case at) rest low text rest p
  goes_marked at rest low high text p top mark under = record {
    found = λ texts r found. found_mark (course_of case at) (apart_of at) rest low text p texts r (as_mark at rest low high text p top mark) found;
    under_way = record { position = omega (arith, mark.reached); untold = under.untold };
  }

  pub ends_lost : (at : ℕ) (rest : List TransitionData) (low high : ℕ) (text : List ℕ) (p : ℕ) → high ≡ highest (course_of case at) rest → LosesAt case low high text p
      → EndsAt (course_of case at) rest low text p
  ends_lost at rest low high text p top loss =
      let is = as_loss at rest low high text p top loss in record {
        last = found_lost (course_of case at) (apart_of at) rest low text p is;
        followed = λ other texts. found_past (course_of case at) (apart_of at) rest low text p other texts is;
      }

  pub is_bad : (at : ℕ) (rest : List TransitionData) (low high : ℕ) (text : List ℕ) → high ≡ highest (course_of case at) rest → IsUnderWay (course_of case at) rest low
      → (IsNext (course_of case at) rest text → ⊥) → ((p : ℕ) → MarksAt case low high text p → ⊥) → ((p : ℕ) → LosesAt case low high text p → ⊥)
      → (texts : List (List ℕ)) → IsFound (Reads (course_of case at) rest low) (text ∷ texts) (Broken 0)
  is_bad at rest low high text top under next mark loss texts =
      found_neither (course_of case at) rest low text texts under next (λ p is. mark p (from_mark at rest low high text p top is)) (λ p is. loss p (from_loss at rest low high text p top is))

  -- ---- the first of the untold transitions

  pub goes_first : (at : ℕ) (rest : List TransitionData) (low : ℕ) (text : List ℕ) (item : TransitionData) (kind : Kind) (obj : Obj) (rev : ℕ) → 1 ≤ length rest → item ≡ get_or rest 0 item
      → record { kind = kind; obj = obj; rev = rev } ≡ item → text ≡ object_line Whole (type_of kind) obj rev → IsUnderWay (course_of case at) rest low
      → GoesOn (course_of case at) rest low text (take (length rest - 1) (drop 1 rest)) rev
  goes_first at [] low text item kind obj rev some first view is under = absurd (omega arith)
  goes_first at (t ∷ more) low text item kind obj rev some first view is under =
      let same : record { kind = kind; obj = obj; rev = rev } ≡ t = view ∙ first in
      let rest_is : take (length (t ∷ more) - 1) (drop 1 (t ∷ more)) ≡ more = take_rest (t ∷ more) 1 in
      let text_is : text ≡ text_in case (Told t) = is ∙ ap (λ (u : TransitionData). text_in case (Told u)) same in
      subst (λ (l : List TransitionData). GoesOn (course_of case at) (t ∷ more) low text l rev) (sym rest_is)
      (subst (λ (n : ℕ). GoesOn (course_of case at) (t ∷ more) low text more n) (sym (ap (λ (u : TransitionData). u.rev) same))
      (goes_told at t more low text text_is under))

  pub not_first : (at : ℕ) (rest : List TransitionData) (text : List ℕ) (item : TransitionData) (kind : Kind) (obj : Obj) (rev : ℕ) → item ≡ get_or rest 0 item
      → record { kind = kind; obj = obj; rev = rev } ≡ item → (text ≡ object_line Whole (type_of kind) obj rev → ⊥) → IsNext (course_of case at) rest text → ⊥
  not_first at [] text item kind obj rev first view not next = next
  not_first at (t ∷ more) text item kind obj rev first view not next =
      let same : record { kind = kind; obj = obj; rev = rev } ≡ t = view ∙ first in
      not (next ∙ sym (ap (λ (u : TransitionData). text_in case (Told u)) same))

  pub no_first : (at : ℕ) (rest : List TransitionData) (text : List ℕ) → length rest ≤ 0 → IsNext (course_of case at) rest text → ⊥
  no_first at [] text none next = next
  no_first at (t ∷ more) text none next = omega arith

-- ---- one line after the other

next_is : (lines : List (List ℕ)) (n : ℕ) (x : List ℕ) → n < length lines → x ≡ get_or lines n x → drop n lines ≡ x ∷ drop (n + 1) lines
next_is lines n x inside item = at_drop_more (λ (l : List (List ℕ)). l) lines n x inside ∙ ap (λ (y : List ℕ). y ∷ drop (n + 1) lines) (sym item)

pub follow_more : (All Here More : List (List ℕ) → ℕ → Type 0) (lines : List (List ℕ)) (n : ℕ) (x : List ℕ) → n < length lines → x ≡ get_or lines n x
    → ((r : Found) → IsFound Here (drop n lines) r → IsFound All lines (later n r))
    → ((texts : List (List ℕ)) (r : Found) → IsFound More texts r → IsFound Here (x ∷ texts) (later 1 r))
    → (r : Found) → IsFound More (drop (n + 1) lines) r → IsFound All lines (later (n + 1) r)
follow_more All Here More lines n x inside item before step r is =
    subst (IsFound All lines) (later-adds n 1 r)
    (before (later 1 r) (subst (λ (l : List (List ℕ)). IsFound Here l (later 1 r)) (sym (next_is lines n x inside item)) (step (drop (n + 1) lines) r is)))

pub follow_bad : (All Here : List (List ℕ) → ℕ → Type 0) (lines : List (List ℕ)) (n : ℕ) (x : List ℕ) → n < length lines → x ≡ get_or lines n x
    → ((r : Found) → IsFound Here (drop n lines) r → IsFound All lines (later n r))
    → ((texts : List (List ℕ)) → IsFound Here (x ∷ texts) (Broken 0)) → IsFound All lines (Broken n)
follow_bad All Here lines n x inside item before bad =
    let none : n + 0 ≡ n = omega arith in
    subst (λ (m : ℕ). IsFound All lines (Broken m)) none
    (before (Broken 0) (subst (λ (l : List (List ℕ)). IsFound Here l (Broken 0)) (sym (next_is lines n x inside item)) (bad (drop (n + 1) lines))))

pub follow_end : (All Here : List (List ℕ) → ℕ → Type 0) (lines : List (List ℕ)) (n : ℕ) (x : List ℕ) (position : ℕ) (r : Found) → n < length lines → x ≡ get_or lines n x
    → ((r : Found) → IsFound Here (drop n lines) r → IsFound All lines (later n r))
    → IsFound Here (x ∷ []) (Reached position) → ((other : List ℕ) (texts : List (List ℕ)) → IsFound Here (x ∷ other ∷ texts) (Broken 1))
    → r ≡ (if eqb (n + 1) (length lines) then Reached position else Broken (n + 1)) → IsFound All lines r
follow_end All Here lines n x position r inside item before last followed r_is =
    by (drop (n + 1) lines) (next_is lines n x inside item) (length-drop (n + 1) lines)
  where
    by : (rest : List (List ℕ)) → drop n lines ≡ x ∷ rest → length rest ≡ length lines - (n + 1) → IsFound All lines r
    by [] is short =
        let all : n + 1 ≡ length lines = omega (arith, short, inside) in
        let answer : r ≡ Reached position = r_is ∙ ap (λ (b : Bool). if b then Reached position else Broken (n + 1)) (eq-eqb (n + 1) (length lines) all) in
        subst (IsFound All lines) (sym answer) (before (Reached position) (subst (λ (l : List (List ℕ)). IsFound Here l (Reached position)) (sym is) last))
    by (y ∷ ys) is short =
        let more : n + 1 ≡ length lines → ⊥ = λ e. omega (arith, short, e) in
        let answer : r ≡ Broken (n + 1) = r_is ∙ ap (λ (b : Bool). if b then Reached position else Broken (n + 1)) (ne_eqb (n + 1) (length lines) more) in
        subst (IsFound All lines) (sym answer) (before (Broken 1) (subst (λ (l : List (List ℕ)). IsFound Here l (Broken 1)) (sym is) (followed y ys)))

pub follow_none : (c : Course) (All : List (List ℕ) → ℕ → Type 0) (lines : List (List ℕ)) (n : ℕ) (rest : List TransitionData) (low high : ℕ) (r : Found) → length lines ≤ n → n ≤ length lines
    → ((r : Found) → IsFound (Reads c rest low) (drop n lines) r → IsFound All lines (later n r)) → IsUnderWay c rest low → high ≡ highest c rest
    → r ≡ (if leb low high then Reached low else Broken (length lines)) → IsFound All lines r
follow_none c All lines n rest low high r past fits before under top r_is =
    let none : drop n lines ≡ [] = drop_all n lines past in
    elim (cases_lt high low) [
      | inl over ↦
          let answer : r ≡ Broken (length lines) = r_is ∙ ap (λ (b : Bool). if b then Reached low else Broken (length lines)) (lt-leb low high over) in
          let all : n + 0 ≡ length lines = omega (arith, past, fits) in
          let within : highest c rest < low = omega (arith, top, over) in
          subst (IsFound All lines) (ap (λ (m : ℕ). Broken m) all ∙ sym answer) (before (Broken 0) (subst (λ (l : List (List ℕ)). IsFound (Reads c rest low) l (Broken 0)) (sym none) (found_within c rest low within under)))
      | inr fine ↦
          let answer : r ≡ Reached low = r_is ∙ ap (λ (b : Bool). if b then Reached low else Broken (length lines)) (le-leb low high fine) in
          let within : low ≤ highest c rest = omega (arith, top, fine) in
          subst (IsFound All lines) (sym answer) (before (Reached low) (subst (λ (l : List (List ℕ)). IsFound (Reads c rest low) l (Reached low)) (sym none) (found_whole c rest low within)))
    ]
