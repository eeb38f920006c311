-- What is written of a token is read back.
use Rattle.std.proofs.Common.{◌≡◌, ℕ, ◌^◌, ◌≤◌, ◌==◌, Bool, true, false, List, [], ◌∷◌, Option, Some, is_some, Ok, refl, ap, ◌∙◌, arith, inl, inr, ◌||◌, codes, decimal, bytes_eq, option_and_then}
use Rattle.std.proofs.lemmas.Bool.{cases_Bool, ne_eqb}
use Rattle.std.proofs.lemmas.List.Folds.{list_any-append}
use Rattle.std.proofs.lemmas.Slice.Eq.{bytes_eq-Decides}
use Rattle.std.specs.List.{list_any}
use Rattle.std.specs.Result.{result_ok}
use Rattle.base64.specs.GeneralPurpose.{decode_of}
use Rattle.base64.specs.Engines.{url_safe_no_pad}
use Rattle.kube_meta.specs.declared.resources.Resource.{Resource}
use Rattle.kube_meta.specs.Resources.{plural_of, of_plural}
use Rattle.kube_meta.specs.Revisions.{revision_of}
use Rattle.kube_meta.specs.Keys.{IsKey, is_key}
use Rattle.kube_meta.proofs.KeyLemmas.{tested}
use Rattle.kube_meta.proofs.ResourceLemmas.{plurals}
use Rattle.kube_meta.proofs.RevisionLemmas.{are_read_back}
use Rattle.select_all.specs.declared.selection.Selection.{Selection}
use Rattle.list_rules.specs.Tokens.{TokenTexts, IsOneLine, is_line_feed, line, token_texts, spaced, list_namespace, token_lines, token_body, token_read, texts_read, is_of_list}
use Rattle.list_rules.proofs.TextLemmas.{line_back}
use Rattle.list_rules.proofs.NameLemmas.{revision_is_one_line, plural_is_one_line, key_is_one_line}

same_text : (text : List ℕ) → bytes_eq text text ≡ true
same_text text = (bytes_eq-Decides text text).1 refl

spaced_is_one_line : (text : List ℕ) → IsOneLine (spaced text)
spaced_is_one_line [] = refl
spaced_is_one_line (b ∷ text) = elim (cases_Bool (is_line_feed b)) [
  | inl feed ↦ rw feed (spaced_is_one_line text)
  | inr other ↦ rw (other, other) (spaced_is_one_line text)
]

six_back : (a b c d e f g : List ℕ) → IsOneLine a → IsOneLine b → IsOneLine c → IsOneLine d → IsOneLine e → IsOneLine f
    → token_texts (line a (line b (line c (line d (line e (line f g))))))
    ≡ Some (record { version = a; revision = b; resource = c; namespace = d; key = e; label = f; field = g })
six_back a b c d e f g ha hb hc hd he hf =
    rw (
      line_back a (line b (line c (line d (line e (line f g))))) ha,
      line_back b (line c (line d (line e (line f g)))) hb,
      line_back c (line d (line e (line f g))) hc,
      line_back d (line e (line f g)) hd,
      line_back e (line f g) he,
      line_back f g hf,
    ) refl

accepted : (t : TokenTexts) (s : Selection) (label field : List ℕ) (rev : ℕ) → revision_of t.revision ≡ Ok rev → (rev == 0) ≡ false
    → bytes_eq t.version (codes "1") ≡ true → is_some (of_plural t.resource) ≡ true → is_key t.key ≡ true → is_of_list t s label field ≡ true
    → texts_read (Some t) s label field ≡ Ok (rev, t.key)
accepted t s label field rev number some version resource key list = rw (version, resource, number, some, key, list) refl

plural_passes : (r : Resource) → is_some (of_plural (plural_of r)) ≡ true
plural_passes r = ap is_some ((plurals (plural_of r) r).1 refl)

key_passes : (key : List ℕ) → IsKey key → is_key key ≡ true
key_passes key is = (tested key).1 is

pub read_back : (s : Selection) (label field : List ℕ) (rev : ℕ) (key text : List ℕ) → 1 ≤ rev → rev ≤ 2 ^ 62 → IsKey key → IsOneLine (list_namespace s.ns)
    → token_body text ≡ Some (token_lines s label field rev key) → token_read text s label field ≡ Ok (rev, key)
read_back s label field rev key text pos low is one body =
    let t : TokenTexts = record { version = codes "1"; revision = decimal rev; resource = plural_of s.resource; namespace = list_namespace s.ns; key = key; label = spaced label; field = field } in
    let parts : token_texts (token_lines s label field rev key) ≡ Some t =
    six_back (codes "1") (decimal rev) (plural_of s.resource) (list_namespace s.ns) key (spaced label) field
    refl (revision_is_one_line rev low) (plural_is_one_line s.resource) one (key_is_one_line key is) (spaced_is_one_line label) in
    let list : is_of_list t s label field ≡ true = rw (same_text (plural_of s.resource), same_text (list_namespace s.ns), same_text (spaced label), same_text field) refl in
    ap (λ (b : Option (List ℕ)). texts_read (option_and_then token_texts b) s label field) body
    ∙ ap (λ (o : Option TokenTexts). texts_read o s label field) parts
    ∙ accepted t s label field rev (are_read_back.0 rev low) (ne_eqb rev 0 (omega arith)) refl (plural_passes s.resource) (key_passes key is) list

-- what was decoded is the body of the token
pub token_reads : (text bytes lines body : List ℕ) → text ≡ bytes → decode_of url_safe_no_pad bytes ≡ Ok lines → lines ≡ body → token_body text ≡ Some body
unfolding token_body
token_reads text bytes lines body same read is =
    ap (λ (t : List ℕ). result_ok (decode_of url_safe_no_pad t)) same ∙ ap result_ok read ∙ ap (λ (l : List ℕ). Some l) is
