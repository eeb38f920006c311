-- Masks of selections.
use Rattle.std.specs.Prelude.{IsTrue}
use Rattle.kube_meta.specs.declared.objects.Obj.{Obj}
use Rattle.kube_meta.specs.declared.words.Mask.{Mask}
use Rattle.kube_meta.specs.Words.{fits}
use Rattle.select_all.specs.declared.selection.Selection.{Selection}
use Rattle.select_all.specs.Selecting.{selects}

-- the words of each selected object have the mask's bits; so an object whose words lack one isn't selected
abbrev pub IsMaskOf : Selection → Mask → Type 0
IsMaskOf s mask = (obj : Obj) → IsTrue (selects s obj) → IsTrue (fits mask obj)
