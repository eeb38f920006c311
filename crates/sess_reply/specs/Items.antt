-- The items of a list, as they are written one after the other.
use Rattle.std.specs.Prelude.{ℕ, List, ◌++◌, map}
use Rattle.json_obj.specs.Replies.{items_text}
use Rattle.kube_meta.specs.Rows.{RowData}
use Rattle.meta_view.specs.declared.form.Form.{Form}
use Rattle.sess_reply.specs.Contents.{shown_row}

-- objects in a form, joined by commas
abbrev pub rows_text : Form → List RowData → List ℕ
rows_text form rows = items_text (map (shown_row form) rows)

-- between what stands before them and what stands after them
abbrev pub between : List ℕ → Form → List RowData → List ℕ → List ℕ
between front form rows back = front ++ (rows_text form rows ++ back)
