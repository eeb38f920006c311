use Rattle.std.proofs.Common.{◌∙◌, false, refl, ap}
use Rattle.std.specs.List.{flat_map}
use Rattle.http_send.specs.declared.replies.ContentType.TheVariants.{Json}
use Rattle.sess_reply.specs.Contents.{listed_json}
use Rattle.sess_reply.specs.Items.{between}
use Rattle.sess_reply.proofs.ItemLemmas.{listed_text}
use Rattle.sess_reply.proofs.SendLemmas.{content-sends}
use Rattle.sess_reply.proofs.lists.send_page.Goals as goal

pub returns : goal.returns
returns g c =
    let front = flat_map (λ piece. piece.now) c.shown_list_front-front.result in
    let back = flat_map (λ piece. piece.now) c.args.back.now in
    let rows = ap (λ listed. listed.rows) c.listed.view_is in
    content-sends c.send_items.result _ Json 200 false c.args.close _
    (record { code = 200; retry = false; kind = Json; text = listed_json c.args.form c.args.resource c.args.listed.now }) refl refl refl
    (ap (λ items. between front c.args.form items back) rows
    ∙ listed_text c.args.form c.args.resource c.args.listed.now front back c.shown_list_front-front.ensures c.requires)
    c.send_items.ensures
