-- The items of a list, one after the other.
use Rattle.std.proofs.Common.{◌≡◌, ℕ, ◌+◌, List, [], ◌∷◌, ◌++◌, length, map, refl, sym, ap, subst, ◌∙◌, length-append, append_assoc, arith, None, Some}
use Rattle.std.specs.List.{flat_map}
use Rattle.std.specs.Option.{SomeIff, IfSome}
use Rattle.std.specs.Prelude.{Option}
use Rattle.edge_io.proofs.PieceLemmas.{AppendedSome-inside}
use Rattle.edge_io.specs.Counts.{Rose}
use Rattle.edge_io.specs.Sent.{IsWrittenOut, IsBrokenOff}
use Rattle.edge_io.proofs.SentLemmas.{bytes_of}
use Rattle.json_obj.specs.Replies.{later_items, list_front, list_back}
use Rattle.kube_meta.specs.Rows.{RowData}
use Rattle.kube_meta.specs.declared.resources.Resource.{Resource}
use Rattle.client_api.specs.Answers.{ListedData}
use Rattle.meta_view.specs.Lines.{version_in, list_kind_in}
use Rattle.meta_view.specs.declared.form.Form.{Form}
use Rattle.sess_reply.specs.Contents.{shown_row, listed_json}
use Rattle.sess_reply.specs.Items.{rows_text, between}

-- a sum of lengths that was counted
pub sum_is : (P : Type 0) (r : Option ℕ) (v n : ℕ) → SomeIff r P v → v ≡ n → IfSome r (λ m. m ≡ n)
sum_is P None v n p e = tt
sum_is P (Some x) v n p e = p.1 ∙ e

-- the items after the first, each with its comma
later_items-rows : (form : Form) (later : List RowData) → later_items (map (shown_row form) later) ≡ flat_map (λ row. 44 ∷ shown_row form row) later
later_items-rows form [] = refl
later_items-rows form (row ∷ later) = ap (λ t. 44 ∷ (shown_row form row ++ t)) (later_items-rows form later)

-- all of them: the first, and then the others
module _ (form : Form) (rows : List RowData) (first : RowData) (later : List RowData) (are : rows ≡ first ∷ later)
    (text : List ℕ) (shows : text ≡ shown_row form first) where
  pub rows_text-cons : rows_text form rows ≡ text ++ flat_map (λ row. 44 ∷ shown_row form row) later
  rows_text-cons =
      ap (rows_text form) are
      ∙ ap (λ t. shown_row form first ++ t) (later_items-rows form later)
      ∙ ap (λ t. t ++ flat_map (λ row. 44 ∷ shown_row form row) later) (sym shows)

  pub rows_text-length : (a b : ℕ) → a ≡ length text → b ≡ length (flat_map (λ row. 44 ∷ shown_row form row) later)
      → a + b ≡ length (rows_text form rows)
  rows_text-length a b counted others =
      let whole = ap length rows_text-cons ∙ length-append text (flat_map (λ row. 44 ∷ shown_row form row) later) in
      omega (arith, whole)

-- an item follows what is done: what is done then, and what is left, make the same
module _ (f : RowData → List ℕ) (row : RowData) (before after : List RowData) (next : before ≡ row ∷ after) (text : List ℕ) (shows : text ≡ f row) where
  items-left : flat_map f before ≡ text ++ flat_map f after
  items-left = ap (flat_map f) next ∙ ap (λ t. t ++ flat_map f after) (sym shows)

  pub items-written : (done all : List ℕ) → done ++ flat_map f before ≡ all → (done ++ text) ++ flat_map f after ≡ all
  items-written done all so_far = append_assoc done text (flat_map f after) ∙ ap (λ t. done ++ t) (sym items-left) ∙ so_far

  -- where the item is broken off, all are
  pub items-broken : (done all : List ℕ) (a b c : Option (List ℕ)) (k l m : ℕ) → done ++ flat_map f before ≡ all
      → IsWrittenOut done (bytes_of a b k l) → IsBrokenOff text (bytes_of b c l m) → IsBrokenOff all (bytes_of a c k m)
  items-broken done all a b c k l m so_far written p = (
    AppendedSome-inside a b c done text (flat_map f after) all written.0 p.0 (sym so_far ∙ ap (λ t. done ++ t) items-left),
    subst (λ n. Rose n m) written.1 p.1,
  )

-- a list, from what stands before its items and what stands after them
pub listed_text : (form : Form) (resource : Resource) (listed : ListedData) (front back : List ℕ)
    → front ≡ list_front (version_in form resource) → back ≡ list_back (list_kind_in form resource) listed.rev listed.more
    → between front form listed.rows back ≡ listed_json form resource listed
listed_text form resource listed front back e f =
    ap (λ t. between t form listed.rows back) e ∙ ap (λ t. between (list_front (version_in form resource)) form listed.rows t) f
