use Rattle.std.proofs.Common.{◌≡◌, ◌≤◌, ◌++◌, Ok, Some, decimal, refl, sym, ap, ap₂, ◌∙◌, arith}
use Rattle.std.proofs.lemmas.Bool.{ltb-false}
use Rattle.std.proofs.lemmas.Fmt.{IsAscii-decimal}
use Rattle.std.proofs.lemmas.Str.{IsUtf8-append, IsUtf8-from_ascii}
use Rattle.serde_json.specs.Data.{depth}
use Rattle.serde_json.specs.Read.{read}
use Rattle.kube_meta.specs.Revisions.{revision_of}
use Rattle.json_obj.specs.Objects.{metadata_of, name_in, max_nesting, unless_zero}
use Rattle.json_obj.proofs.One.{one_object}
use Rattle.json_obj.proofs.ReadBack.{read-compact_text}
use Rattle.json_obj.proofs.AsShown.{allowed_by, none_by, as_shown, allowed-shown, orderly-as_shown, stores-shown}
use Rattle.json_obj.proofs.laws.objects_read_back.Goals as goal

pub returns : goal.returns
returns c = λ resource ns path d o revision orderly fine is small.
    let back : revision_of (decimal revision) ≡ Ok revision = c.revisions_are_read_back.ensures.0 revision small in
    let shown = as_shown resource ns revision d in
    let allowed = allowed_by resource ns path d fine in
    let again = allowed-shown resource ns path d revision back allowed in
    let shallow : depth shown ≤ max_nesting = ltb-false max_nesting (depth shown) again.shallow in
    let stored = stores-shown resource ns d o revision back allowed.plain is in
    record {
      value = shown;
      shown = refl;
      text = (
        IsUtf8-append (o.front ++ decimal revision) o.back (IsUtf8-append o.front (decimal revision) is.front_utf8 (IsUtf8-from_ascii (decimal revision) (IsAscii-decimal revision (omega arith)))) is.back_utf8,
        ap read (is.text allowed.plain revision) ∙ read-compact_text shown (orderly-as_shown resource ns d revision orderly) again.plain (omega arith),
      );
      allowed = none_by resource ns (Some (name_in (metadata_of d))) shown again;
      stored = stored;
      one = λ other also.
          let object = one_object resource ns shown other.0 o again.plain also.object stored.object in
          let given : Some other.1 ≡ Some (unless_zero revision) = also.given ∙ sym stored.given in
          let same : other.1 ≡ unless_zero revision = cc in
          ap₂ (λ a b. (a, b)) object same;
    }
