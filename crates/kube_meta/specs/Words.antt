-- Words of 64 bits: one of an object's labels, in which each sets two bits, and one of its listed fields, in which each
-- sets four. What lacks a bit that a mask has isn't selected.
use Rattle.std.specs.Prelude.{◌==◌, ◌&&◌, ℕ, zero, suc, ◌/◌, ◌%◌, ◌^◌, Bool, List, [], length, slice_index_or, bit_or, fold, if◌then◌else◌}
use Rattle.kube_meta.specs.declared.objects.Obj.{Obj}
use Rattle.kube_meta.specs.declared.words.Mask.{Mask}
use Rattle.kube_meta.specs.Hashes.{hash_of, stirred}
use Rattle.kube_meta.specs.Labels.{Pairs}

-- two bits of 64, told by the upper twelve of a hash
abbrev pub bits_of : ℕ → ℕ
bits_of hash = bit_or (2 ^ (hash / 2 ^ 58)) (2 ^ (hash / 2 ^ 52 % 64))

-- four bits of 64, told by a hash and by that stirred once more, with its own upper half
abbrev pub four_bits_of : ℕ → ℕ
four_bits_of hash = bit_or (bits_of hash) (bits_of (stirred hash (hash / 2 ^ 32)))

-- the bits of a label with its value
unfoldable pub label_bits : List ℕ → List ℕ → ℕ
label_bits name value = bits_of (hash_of (hash_of 0 name) value)

-- the bits of the listed field at a place with its value; none where that is empty, as that of a field that isn't there
unfoldable pub field_bits : ℕ → List ℕ → ℕ
field_bits place value = if length value == 0 then 0 else four_bits_of (hash_of place value)

-- the bits of all labels
abbrev pub labels_word : Pairs → ℕ
labels_word labels = fold (λ word pair. bit_or word (label_bits pair.0 pair.1)) 0 labels

-- the bits of the first so many listed fields
abbrev pub first_fields_word : List (List ℕ) → ℕ → ℕ
first_fields_word fields zero = 0
first_fields_word fields (suc n) = bit_or (first_fields_word fields n) (field_bits n (slice_index_or fields n []))

-- the bits of all listed fields
abbrev pub fields_word : List (List ℕ) → ℕ
fields_word fields = first_fields_word fields (length fields)

-- the word has each bit of the mask
abbrev pub has_bits : ℕ → ℕ → Bool
has_bits word mask = bit_or word mask == word

-- the words of an object have the bits of a mask
unfoldable pub fits : Mask → Obj → Bool
fits mask obj = has_bits (labels_word obj.labels) mask.labels && has_bits (fields_word obj.fields) mask.fields
