-- A line that no opening has is refused in one way.
use Rattle.std.specs.Prelude.{Option, Some, None}
use Rattle.std.proofs.Common.{◌≡◌, ℕ, ◌⊎◌, inl, inr, List, [], ◌∷◌, ◌++◌, length, refl, sym, ap, subst, ◌∙◌, arith, length-append}
use Rattle.kube_meta.specs.Rows.{RowData}
use Rattle.kube_meta.specs.declared.resources.Resource.TheVariants.{Pods}
use Rattle.line_stream.specs.Readers.{most_line}
use Rattle.line_stream.specs.Streams.{ReadingsAgree}
use Rattle.mirror_link.specs.Openings.{AreOpened}
use Rattle.mirror_link.specs.Reading.{AreTexts, most_opening, opening_fault}
use Rattle.mirror_link.specs.declared.link_refusal.LinkNo.{LinkNo}
use Rattle.select_all.specs.declared.selection.Kind.TheVariants.{Added}
use Rattle.select_all.specs.declared.selection.Selection.{Selection}
use Rattle.watch_lines.specs.Laws.{LinesAreOne, as_read}
use Rattle.watch_lines.specs.Lines.{IsPeerLine, ReadsPeerLine}
use Rattle.watch_lines.specs.declared.peer_line.PeerLine.{PeerLine}
use Rattle.watch_lines.specs.declared.peer_line.PeerLine.TheVariants as peer
use Rattle.watch_rules.specs.Bodies.{Told, initial, initial_lines}
use Rattle.laws.specs.Openings.{BadLinesAgree}
use Rattle.laws.proofs.OneLemmas.{row_of, first_is, rest_is, same_line}
use Rattle.laws.proofs.OpenedLemmas.{added_well, found_is, none_some}
use Rattle.laws.proofs.WriteLemmas.{same_some}

-- of two texts behind the events of these rows and of those, in one list of texts, of which the second isn't before the
-- first: they stand in one place, or the first is an event of those
abbrev Places : List RowData → List RowData → List ℕ → List ℕ → Type 0
Places rows others text other =
    ((others ≡ rows) × (other ≡ text))
    ⊎ ((row : RowData) × (rest : List RowData) × (others ≡ rows ++ row ∷ rest) × IsPeerLine Pods text (as_read (Told (initial row))))

one_on : (row o : RowData) (rows others : List RowData) (text other : List ℕ) → o ≡ row → Places rows others text other → Places (row ∷ rows) (o ∷ others) text other
one_on row o rows others text other same (inl next) = inl ((λ i. same i ∷ next.0 i), next.1)
one_on row o rows others text other same (inr next) = inr (next.0, next.1, (λ i. same i ∷ next.2 i), next.3)

place : LinesAreOne → (a b later : List (List ℕ)) (text other : List ℕ) (rows others : List RowData) → AreTexts a (initial_lines rows) → AreTexts b (initial_lines others)
    → b ++ other ∷ [] ≡ (a ++ text ∷ []) ++ later → Places rows others text other
place one [] b later text other (row ∷ rows) others of to same = absurd of
place one [] [] later text other [] (o ∷ others) of to same = absurd to
place one [] [] later text other [] [] of to same = inl (refl, first_is text other later [] same)
place one [] (u ∷ b) later text other [] [] of to same = absurd to
place one [] (u ∷ b) later text other [] (o ∷ others) of to same =
    inr (o, others, refl, subst (λ (l : List ℕ). IsPeerLine Pods l (as_read (Told (initial o)))) (first_is text u later (b ++ other ∷ []) same) to.0)
place one (t ∷ a) b later text other [] others of to same = absurd of
place one (t ∷ a) [] later text other (row ∷ rows) (o ∷ others) of to same = absurd to
place one (t ∷ a) [] later text other (row ∷ rows) [] of to same =
    absurd (omega (
      arith,
      ap length (rest_is t other ((a ++ text ∷ []) ++ later) [] same),
      length-append (a ++ text ∷ []) later,
      length-append a (text ∷ []),
    ))
place one (t ∷ a) (u ∷ b) later text other (row ∷ rows) [] of to same = absurd to
place one (t ∷ a) (u ∷ b) later text other (row ∷ rows) (o ∷ others) of to same =
    let line : peer.Told Added row.obj row.rev ≡ peer.Told Added o.obj o.rev =
    same_line one t u (Told (initial row)) (Told (initial o)) of.0 to.0 (first_is t u ((a ++ text ∷ []) ++ later) (b ++ other ∷ []) same) in
    one_on row o rows others text other (row_of row o line)
    (place one a b later text other rows others of.1 to.1 (rest_is t u ((a ++ text ∷ []) ++ later) (b ++ other ∷ []) same))

-- a text is read in one way
found_one : LinesAreOne → (text : List ℕ) (found also : Option PeerLine) → ReadsPeerLine Pods text found → ReadsPeerLine Pods text also → also ≡ found
found_one one text None None reads again = refl
found_one one text None (Some line) reads again = absurd (reads line again)
found_one one text (Some line) also reads again = found_is one text also line again reads

module _ (one : LinesAreOne) (s : Selection) where
  one_fault : (rows others : List RowData) (text other : List ℕ) (found also : Option PeerLine) (why later : LinkNo) → AreOpened s others → Places rows others text other
      → ReadsPeerLine Pods text found → ReadsPeerLine Pods other also → opening_fault s rows found ≡ Some why → opening_fault s others also ≡ Some later → later ≡ why
  one_fault rows others text other found also why later opened (inl next) reads again fault wrong =
      let same : also ≡ found = found_one one text found also reads (subst (λ (t : List ℕ). ReadsPeerLine Pods t also) next.1 again) in
      same_some later why (sym wrong ∙ ap (λ (r : List RowData). opening_fault s r also) next.0 ∙ ap (opening_fault s rows) same ∙ fault)
  one_fault rows others text other found also why later opened (inr next) reads again fault wrong =
      let is : found ≡ Some (as_read (Told (initial next.0))) = found_is one text found (as_read (Told (initial next.0))) reads next.3 in
      absurd (none_some why (sym (added_well s others rows next.0 next.1 opened next.2) ∙ ap (opening_fault s rows) (sym is) ∙ fault))

pub bad_lines_agree : LinesAreOne → ReadingsAgree → BadLinesAgree
bad_lines_agree one agree s bytes more why later x y =
    elim (agree (x.texts ++ x.text ∷ []) (y.texts ++ y.text ∷ []) (Some most_opening) (Some most_opening) most_line most_line bytes more x.reader y.reader x.stands y.stands) [
      | inl b ↦
          one_fault one s x.rows y.rows x.text y.text x.found y.found why later y.rows_are
          (place one x.texts y.texts b.0 x.text y.text x.rows y.rows x.texts_are y.texts_are b.1) x.reads y.reads x.fault y.fault
      | inr b ↦
          sym (one_fault one s y.rows x.rows y.text x.text y.found x.found later why x.rows_are
          (place one y.texts x.texts b.0 y.text x.text y.rows x.rows y.texts_are x.texts_are b.1) y.reads x.reads y.fault x.fault)
    ]
