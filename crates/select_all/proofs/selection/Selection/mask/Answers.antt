use Rattle.kube_meta.proofs.WordLemmas.{fits_by}
use Rattle.select_all.proofs.SelectionLaws.{selects_decides}
use Rattle.select_all.proofs.selection.Selection.mask.Goals as goal

-- what is selected is selected by both selectors, and so its words have the bits that each asks for
pub returns : goal.returns
returns c obj is =
    let chosen = (selects_decides c.args.self.now obj).0 is in
    fits_by (record { labels = c.mask.result; fields = c.mask-2.result }) obj
    (c.mask.ensures obj.labels chosen.labels)
    (c.mask-2.ensures obj.fields obj.key chosen.fields)
