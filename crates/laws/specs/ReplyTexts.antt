-- Texts of replies tell them apart.
use Rattle.std.specs.Prelude.{◌≡◌, ◌+◌, ◌<◌, ◌^◌, Bool, Some, length}
use Rattle.meta_view.specs.declared.form.Form.{Form}
use Rattle.sess_reply.specs.Contents.{Content}
use Rattle.sess_reply.specs.Replies.{Reply, content_of, reply_text}

-- a status is below 1000, and a length, with the line feed behind the text, is below 2 ^ 64
pub record MayBeSent (content : Content) : Type 0 where
  pub code : content.code < 1000
  pub fits : length content.text + 1 < 2 ^ 64

-- Replies that have one text say the same: the same status, text and kind, that the client may ask again, and that the
-- connection ends.
abbrev pub RepliesTellApart : Type 0
RepliesTellApart =
    (form other : Form) (close later : Bool) (reply again : Reply) (said told : Content) → content_of form reply ≡ Some said → content_of other again ≡ Some told →
    MayBeSent said → MayBeSent told → reply_text form close reply ≡ reply_text other later again → (said ≡ told) × (close ≡ later)
