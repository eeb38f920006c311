-- Bytes have one opening at most.
use Rattle.std.proofs.Common.{◌≡◌, ℕ, List, [], ◌∷◌, ◌++◌, Some, true, refl, sym, ap, ◌∙◌, subst, inl, inr}
use Rattle.kube_meta.specs.Rows.{RowData}
use Rattle.kube_meta.specs.declared.resources.Resource.TheVariants.{Pods}
use Rattle.select_all.specs.declared.selection.Kind.TheVariants.{Added}
use Rattle.mirror_link.specs.Reading.{AreTexts, most_opening}
use Rattle.line_stream.specs.Readers.{most_line}
use Rattle.line_stream.specs.Streams.{ReadingsAgree}
use Rattle.watch_lines.specs.Laws.{LinesAreOne, as_read}
use Rattle.watch_lines.specs.Lines.{IsPeerLine}
use Rattle.watch_lines.specs.declared.peer_line.PeerLine.TheVariants as peer
use Rattle.watch_rules.specs.Bodies.{Line, Told, Closing, initial, initial_lines}
use Rattle.laws.specs.Openings.{OpeningsAreOne}

pub row_of : (row other : RowData) → peer.Told Added row.obj row.rev ≡ peer.Told Added other.obj other.rev → other ≡ row
row_of row other same =
    let obj_is : other.obj ≡ row.obj = cc in
    let rev_is : other.rev ≡ row.rev = cc in
    λ i. record { obj = obj_is i; rev = rev_is i }

pub first_is : (t u : List ℕ) (texts others : List (List ℕ)) → u ∷ others ≡ t ∷ texts → u ≡ t
first_is t u texts others same = cc

pub rest_is : (t u : List ℕ) (texts others : List (List ℕ)) → u ∷ others ≡ t ∷ texts → others ≡ texts
rest_is t u texts others same = cc

-- a text of two lines is that of one
pub same_line : LinesAreOne → (t u : List ℕ) (line other : Line) → IsPeerLine Pods t (as_read line) → IsPeerLine Pods u (as_read other) → u ≡ t → as_read line ≡ as_read other
same_line one t u line other a b same = one Pods t (as_read line) (as_read other) a (subst (λ (l : List ℕ). IsPeerLine Pods l (as_read other)) same b)

-- where the texts of an opening begin those of another, that is the same
texts_one : LinesAreOne → (a b later : List (List ℕ)) (rows others : List RowData) (base other : ℕ) → AreTexts a (initial_lines rows ++ Closing base ∷ []) → AreTexts b (initial_lines others ++ Closing other ∷ [])
    → b ≡ a ++ later → (others ≡ rows) × (other ≡ base)
texts_one one [] b later [] others base other of to same = absurd of
texts_one one [] b later (row ∷ rows) others base other of to same = absurd of
texts_one one (t ∷ a) [] later rows [] base other of to same = absurd to
texts_one one (t ∷ a) [] later rows (o ∷ others) base other of to same = absurd to
texts_one one (t ∷ a) (u ∷ b) later [] [] base other of to same =
    let line : peer.Bookmark base true ≡ peer.Bookmark other true = same_line one t u (Closing base) (Closing other) of.0 to.0 (first_is t u (a ++ later) b same) in
    let base_is : other ≡ base = cc in
    (refl, base_is)
texts_one one (t ∷ a) (u ∷ b) later [] (o ∷ others) base other of to same =
    let line : peer.Bookmark base true ≡ peer.Told Added o.obj o.rev = same_line one t u (Closing base) (Told (initial o)) of.0 to.0 (first_is t u (a ++ later) b same) in absurd (cc)
texts_one one (t ∷ a) (u ∷ b) later (row ∷ rows) [] base other of to same =
    let line : peer.Told Added row.obj row.rev ≡ peer.Bookmark other true = same_line one t u (Told (initial row)) (Closing other) of.0 to.0 (first_is t u (a ++ later) b same) in absurd (cc)
texts_one one (t ∷ a) (u ∷ b) later (row ∷ rows) (o ∷ others) base other of to same =
    let line : peer.Told Added row.obj row.rev ≡ peer.Told Added o.obj o.rev = same_line one t u (Told (initial row)) (Told (initial o)) of.0 to.0 (first_is t u (a ++ later) b same) in
    let rest = texts_one one a b later rows others base other of.1 to.1 (rest_is t u (a ++ later) b same) in
    (ap (λ r. r ∷ others) (row_of row o line) ∙ ap (λ l. row ∷ l) rest.0, rest.1)

pub openings_are_one : LinesAreOne → ReadingsAgree → OpeningsAreOne
openings_are_one one agree bytes more first second x y = elim (agree x.texts y.texts (Some most_opening) (Some most_opening) most_line most_line bytes more x.reader y.reader x.stands y.stands) [
  | inl behind ↦ texts_one one x.texts y.texts behind.0 first.rows second.rows first.base second.base x.texts_are y.texts_are behind.1
  | inr behind ↦
      let same = texts_one one y.texts x.texts behind.0 second.rows first.rows second.base first.base y.texts_are x.texts_are behind.1 in
      (sym same.0, sym same.1)
]
