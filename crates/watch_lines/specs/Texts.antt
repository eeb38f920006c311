-- The texts of a watch's lines, without what ends or frames them.
use Rattle.std.specs.Prelude.{ℕ, List, true, false}
use Rattle.json_obj.specs.declared.pieces.EventType.{EventType}
use Rattle.json_obj.specs.declared.pieces.EventType.TheVariants as types
use Rattle.kube_meta.specs.declared.resources.Resource.{Resource}
use Rattle.meta_view.specs.declared.form.Form.{Form}
use Rattle.meta_view.specs.Lines.{object_line, bookmark_line, expired_line}
use Rattle.select_all.specs.declared.selection.Kind.{Kind}
use Rattle.select_all.specs.declared.selection.Kind.TheVariants.{Added, Modified, Deleted}
use Rattle.watch_rules.specs.Bodies.{Line, Told, Bookmark, Closing, Lost}

-- the type of a line that tells of an object
abbrev pub type_of : Kind → EventType
type_of Added = types.Added
type_of Modified = types.Modified
type_of Deleted = types.Deleted

-- objects and bookmarks are shown in the form that was asked for; the error of a loss has one form
abbrev pub line_text : Form → Resource → Line → List ℕ
line_text form resource (Told transition) = object_line form (type_of transition.kind) transition.obj transition.rev
line_text form resource (Bookmark at) = bookmark_line form resource at false
line_text form resource (Closing at) = bookmark_line form resource at true
line_text form resource (Lost at floor) = expired_line at floor
