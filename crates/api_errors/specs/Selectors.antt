-- What is told of selectors that are refused, with the place of the fault. Nothing is told for want of memory.
use Rattle.std.specs.Prelude.{Option, None, codes}
use Rattle.label_select.specs.declared.refusal.LabelNo.{LabelNo}
use Rattle.label_select.specs.declared.refusal.LabelNo.TheVariants as label
use Rattle.field_select.specs.declared.refusal.FieldNo.{FieldNo}
use Rattle.field_select.specs.declared.refusal.FieldNo.TheVariants as field
use Rattle.select_all.specs.declared.selection.SelNo.{SelNo}
use Rattle.select_all.specs.declared.selection.SelNo.TheVariants as selection
use Rattle.api_errors.specs.Failures.{bad, bad_at}
use Rattle.api_errors.specs.declared.failures.Failure.{Failure}

-- why the text of a label selector isn't one, and at which byte, counted from 0, unless it is too long
abbrev pub label_told : LabelNo → Option Failure
label_told (label.Syntax at) = bad_at (codes "labelSelector: Syntax at ") at
label_told (label.BadKey at) = bad_at (codes "labelSelector: BadKey at ") at
label_told (label.BadValue at) = bad_at (codes "labelSelector: BadValue at ") at
label_told (label.EmptySet at) = bad_at (codes "labelSelector: EmptySet at ") at
label_told label.TooLong = bad (codes "labelSelector: TooLong")
label_told label.Memory = None

-- why the text of a field selector isn't one of the resource, and at which byte, counted from 0, unless it is too long
abbrev pub field_told : FieldNo → Option Failure
field_told (field.Syntax at) = bad_at (codes "fieldSelector: Syntax at ") at
field_told field.TooLong = bad (codes "fieldSelector: TooLong")
field_told (field.UnknownField at) = bad_at (codes "fieldSelector: UnknownField at ") at
field_told field.Memory = None

-- why the selectors of a list or a watch are refused, by the one that is at fault
abbrev pub selector_told : SelNo → Option Failure
selector_told (selection.Label fault) = label_told fault
selector_told (selection.Field fault) = field_told fault
selector_told selection.Memory = None
