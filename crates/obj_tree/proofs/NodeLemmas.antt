-- Nodes: what they hold, and what a change of one does to all rows.
use Rattle.std.proofs.Common.{◌≡◌, ℕ, zero, suc, ◌+◌, ◌-◌, ◌*◌, ◌/◌, ◌<◌, ◌≤◌, List, [], ◌∷◌, ◌++◌, length, take, drop, Option, Some, None, Result, Ok, Err, refl, sym, ap, ◌∙◌, subst, arith, append_assoc, add-one, length-append, length-take, length-drop}
use Rattle.std.specs.Prelude.{MatchOption, OnOk, OnErr}
use Rattle.std.proofs.lemmas.List.{append-nil, take-append-drop}
use Rattle.kube_meta.specs.Rows.{RowData, key_of, row_with, AreRising}
use Rattle.obj_tree.specs.Maps.{below, above, with_row, without}
use Rattle.obj_tree.specs.Pages.{joined, page_at, replaced, HoldEach, AreParts, AreSized, FullWith, AreFull, IsPaged, ArePagesOf, IsNoded, IsPageFor}
use Rattle.obj_tree.proofs.MapLemmas.{rising, are_rising, rising_parts, Cut, cut_around, row_around, put_stays_rising, removal_stays_rising}
use Rattle.obj_tree.proofs.MapEdits.{with_cut, without_cut}
use Rattle.obj_tree.proofs.PageLemmas.{joined-append, joined_at, joined_replaced, hold_at, hold-append, hold-take, hold-drop, sized-append, sized-take, sized-drop, full_drop, full_from, touches_at, touches_page, touches_more, full_more}
use Rattle.obj_tree.proofs.EditLemmas.{joined_take, rows_with_next, rows_with_last}

-- ---- what nodes hold

pub parts_of_nodes : (nodes : List (List RowData)) → IsNoded nodes → AreParts nodes
parts_of_nodes nodes noded = record { some = noded.some; rising = noded.rising }

pub none_noded : IsNoded []
none_noded = record { some = tt; large = λ many. tt; rising = are_rising [] tt }

pub sole_noded : (row : RowData) → IsNoded ((row ∷ []) ∷ [])
sole_noded row = record { some = (omega arith, tt); large = λ many. absurd (omega arith); rising = are_rising (row ∷ []) (refl, tt) }

some_of_large : (nodes : List (List RowData)) → HoldEach 512 nodes → HoldEach 1 nodes
some_of_large [] large = tt
some_of_large (node ∷ nodes) large = (omega (arith, large.0), some_of_large nodes large.1)

-- the nodes beside one
beside : (nodes : List (List RowData)) (at : ℕ) → (1 < length nodes → HoldEach 512 nodes) → at < length nodes → HoldEach 512 (take at nodes) × HoldEach 512 (drop (suc at) nodes)
beside [] at large inside = absurd (omega arith)
beside (node ∷ []) zero large inside = (tt, tt)
beside (node ∷ []) (suc at) large inside = absurd (omega arith)
beside (node ∷ next ∷ nodes) at large inside =
    let all = large (omega arith) in
    (hold-take 512 (node ∷ next ∷ nodes) at all, hold-drop 512 (node ∷ next ∷ nodes) (suc at) all)

pub replaced_length : (nodes others : List (List RowData)) (from to : ℕ) → from ≤ to → to ≤ length nodes → length (replaced nodes from to others) + to ≡ length nodes + from + length others
replaced_length nodes others from to order within =
    omega (arith, length-append (take from nodes) (others ++ drop to nodes), length-append others (drop to nodes), length-take from nodes, length-drop to nodes)

hold_with : (least : ℕ) (nodes others : List (List RowData)) (from to : ℕ) → HoldEach least (take from nodes) → HoldEach least others → HoldEach least (drop to nodes) → HoldEach least (replaced nodes from to others)
hold_with least nodes others from to front middle back =
    hold-append least (take from nodes) (others ++ drop to nodes) front (hold-append least others (drop to nodes) middle back)

module _ (nodes : List (List RowData)) (at : ℕ) (noded : IsNoded nodes) (inside : at < length nodes) where
  -- one node in place of another
  pub noded_one : (node : List RowData) → 0 < length node → (1 < length nodes → 512 ≤ length node) → AreRising (joined (replaced nodes at (at + 1) (node ∷ []))) → IsNoded (replaced nodes at (at + 1) (node ∷ []))
  noded_one node some large is = record {
    some = rw add-one (hold_with 1 nodes (node ∷ []) at (suc at) (hold-take 1 nodes at noded.some) (omega (arith, some), tt) (hold-drop 1 nodes (suc at) noded.some));
    large = λ many.
        let more : 1 < length nodes = omega (arith, many, replaced_length nodes (node ∷ []) at (at + 1) (omega arith) (omega (arith, inside))) in
        rw add-one (hold_with 512 nodes (node ∷ []) at (suc at) (hold-take 512 nodes at (noded.large more)) (large more, tt) (hold-drop 512 nodes (suc at) (noded.large more)));
    rising = is;
  }

  -- two in place of one
  pub two_rows : (front back : List RowData) → front ++ back ≡ page_at nodes at → joined (replaced nodes at (at + 1) (front ∷ back ∷ [])) ≡ joined nodes
  two_rows front back both =
      rw add-one (joined_replaced nodes (front ∷ back ∷ []) at (suc at)
      ∙ ap (λ (r : List RowData). joined (take at nodes) ++ (r ++ joined (drop (suc at) nodes))) (ap (λ (r : List RowData). front ++ r) (append-nil back) ∙ both)
      ∙ sym (joined_at nodes at inside))

  pub noded_two : (front back : List RowData) → front ++ back ≡ page_at nodes at → 512 ≤ length front → 512 ≤ length back → IsNoded (replaced nodes at (at + 1) (front ∷ back ∷ []))
  noded_two front back both first second =
      let others = beside nodes at noded.large inside in
      let all = hold_with 512 nodes (front ∷ back ∷ []) at (suc at) others.0 (first, (second, tt)) others.1 in
      record {
        some = rw add-one (some_of_large (replaced nodes at (suc at) (front ∷ back ∷ [])) all);
        large = λ many. rw add-one all;
        rising = subst (λ (r : List RowData). AreRising r) (sym (two_rows front back both)) noded.rising;
      }

  -- none in place of the only one
  pub noded_none : length nodes ≤ 1 → AreRising (joined (replaced nodes at (at + 1) [])) → IsNoded (replaced nodes at (at + 1) [])
  noded_none sole is = record {
    some = rw add-one (hold_with 1 nodes [] at (suc at) (hold-take 1 nodes at noded.some) tt (hold-drop 1 nodes (suc at) noded.some));
    large = λ many. absurd (omega (arith, many, sole, replaced_length nodes [] at (at + 1) (omega arith) (omega (arith, inside))));
    rising = is;
  }

-- one in place of two
pub noded_joined : (nodes : List (List RowData)) (at : ℕ) (node : List RowData) → IsNoded nodes → at + 1 < length nodes → 512 ≤ length node → AreRising (joined (replaced nodes at (at + 2) (node ∷ []))) → IsNoded (replaced nodes at (at + 2) (node ∷ []))
noded_joined nodes at node noded more large is =
    let all = noded.large (omega (arith, more)) in
    let held = hold_with 512 nodes (node ∷ []) at (at + 2) (hold-take 512 nodes at all) (large, tt) (hold-drop 512 nodes (at + 2) all) in
    record {
      some = some_of_large (replaced nodes at (at + 2) (node ∷ [])) held;
      large = λ many. held;
      rising = is;
    }

-- ---- the rows of all nodes after a change of one

module _ (nodes : List (List RowData)) (key : List ℕ) (at : ℕ) (for_key : IsPageFor nodes key at) where
  node_cut : Cut (joined nodes) key (joined (take at nodes) ++ below key (page_at nodes at)) (above key (page_at nodes at) ++ joined (drop (suc at) nodes))
  node_cut = rw (joined_at nodes at for_key.inside) (cut_around (joined (take at nodes)) (page_at nodes at) (joined (drop (suc at) nodes)) key for_key.before for_key.after)

  pub row_found : row_with (joined nodes) key ≡ row_with (page_at nodes at) key
  row_found =
      ap (λ (r : List RowData). row_with r key) (joined_at nodes at for_key.inside)
      ∙ row_around (joined (take at nodes)) (page_at nodes at) (joined (drop (suc at) nodes)) key for_key.before for_key.after

one_rows : (nodes : List (List RowData)) (at : ℕ) (node : List RowData) → joined (replaced nodes at (at + 1) (node ∷ [])) ≡ joined (take at nodes) ++ (node ++ joined (drop (suc at) nodes))
one_rows nodes at node =
    rw add-one (joined_replaced nodes (node ∷ []) at (suc at) ∙ ap (λ (r : List RowData). joined (take at nodes) ++ (r ++ joined (drop (suc at) nodes))) (append-nil node))

pub one_length : (nodes : List (List RowData)) (at : ℕ) (node : List RowData) → at < length nodes → length (joined (replaced nodes at (at + 1) (node ∷ []))) + length (page_at nodes at) ≡ length (joined nodes) + length node
one_length nodes at node inside =
    let front = joined (take at nodes) in
    let back = joined (drop (suc at) nodes) in
    omega (arith, ap length (one_rows nodes at node), ap length (joined_at nodes at inside), length-append front (node ++ back), length-append node back, length-append front (page_at nodes at ++ back), length-append (page_at nodes at) back)

pub put_rows : (nodes : List (List RowData)) (row : RowData) (at : ℕ) → IsPageFor nodes (key_of row) at → joined (replaced nodes at (at + 1) (with_row (page_at nodes at) row ∷ [])) ≡ with_row (joined nodes) row
put_rows nodes row at for_key =
    let node = page_at nodes at in
    one_rows nodes at (with_row node row)
    ∙ regroup (joined (take at nodes)) (below (key_of row) node) (row ∷ above (key_of row) node) (joined (drop (suc at) nodes))
    ∙ sym (with_cut (joined nodes) _ _ row (node_cut nodes (key_of row) at for_key))
  where
    regroup : (a b c d : List RowData) → a ++ ((b ++ c) ++ d) ≡ (a ++ b) ++ (c ++ d)
    regroup a b c d = simp append_assoc

pub gone_rows : (nodes : List (List RowData)) (key : List ℕ) (at : ℕ) → IsPageFor nodes key at → joined (replaced nodes at (at + 1) (without (page_at nodes at) key ∷ [])) ≡ without (joined nodes) key
gone_rows nodes key at for_key =
    let node = page_at nodes at in
    one_rows nodes at (without node key)
    ∙ regroup (joined (take at nodes)) (below key node) (above key node) (joined (drop (suc at) nodes))
    ∙ sym (without_cut (joined nodes) _ _ key (node_cut nodes key at for_key))
  where
    regroup : (a b c d : List RowData) → a ++ ((b ++ c) ++ d) ≡ (a ++ b) ++ (c ++ d)
    regroup a b c d = simp append_assoc

-- where nothing is left of a node
pub empty_rows : (nodes : List (List RowData)) (at : ℕ) (node : List RowData) → length node ≡ 0 → joined (replaced nodes at (at + 1) []) ≡ joined (replaced nodes at (at + 1) (node ∷ []))
empty_rows nodes at [] none = rw add-one (joined_replaced nodes [] at (suc at) ∙ sym (joined_replaced nodes ([] ∷ []) at (suc at)))
empty_rows nodes at (row ∷ node) none = absurd (omega arith)

-- what stands between others rises as they do
part_rows : (nodes : List (List RowData)) (from to : ℕ) (node : List RowData) → joined (replaced nodes from to (node ∷ [])) ≡ joined (take from nodes) ++ (node ++ joined (drop to nodes))
part_rows nodes from to node =
    joined_replaced nodes (node ∷ []) from to ∙ ap (λ (r : List RowData). joined (take from nodes) ++ (r ++ joined (drop to nodes))) (append-nil node)

pub rising_part : (nodes : List (List RowData)) (from to : ℕ) (node : List RowData) → AreRising (joined (replaced nodes from to (node ∷ []))) → AreRising node
rising_part nodes from to node is =
    let all = rising _ (subst (λ (r : List RowData). AreRising r) (part_rows nodes from to node) is) in
    are_rising node (rising_parts node (joined (drop to nodes)) (rising_parts (joined (take from nodes)) (node ++ joined (drop to nodes)) all).1).0

pub few_part : (nodes : List (List RowData)) (from to : ℕ) (node : List RowData) → length node ≤ length (joined (replaced nodes from to (node ∷ [])))
few_part nodes from to node =
    omega (arith, ap length (part_rows nodes from to node), length-append (joined (take from nodes)) (node ++ joined (drop to nodes)), length-append node (joined (drop to nodes)))

-- a node and the one before it, or the one after it, as one
pub last_rows : (nodes : List (List RowData)) (at : ℕ) (node : List RowData) → 0 < at → at < length nodes → joined (replaced nodes (at - 1) (at - 1 + 2) ((page_at nodes (at - 1) ++ node) ∷ [])) ≡ joined (replaced nodes at (at + 1) (node ∷ []))
last_rows nodes zero node some inside = absurd (omega arith)
last_rows nodes (suc n) node some inside =
    let one : suc n - 1 ≡ n = omega arith in
    let two : n + 2 ≡ suc (suc n) = omega arith in
    rw (one, add-one, two) (rows_with_last nodes node n (omega arith))

pub next_rows : (nodes : List (List RowData)) (at : ℕ) (node : List RowData) → at + 1 < length nodes → joined (replaced nodes at (at + 2) ((node ++ page_at nodes (at + 1)) ∷ [])) ≡ joined (replaced nodes at (at + 1) (node ∷ []))
next_rows nodes at node more =
    let two : at + 2 ≡ suc (suc at) = omega arith in
    rw (add-one, two) (rows_with_next nodes node at (omega (arith, more)))

-- what was put in place of a node, and that gone again
pub page_put : (nodes : List (List RowData)) (at : ℕ) (node : List RowData) → at < length nodes → page_at (replaced nodes at (at + 1) (node ∷ [])) at ≡ node
page_put nodes at node inside = rw add-one (by nodes at inside)
  where
    by : (nodes : List (List RowData)) (at : ℕ) → at < length nodes → page_at (replaced nodes at (suc at) (node ∷ [])) at ≡ node
    by [] at inside = absurd (omega arith)
    by (x ∷ nodes) zero inside = refl
    by (x ∷ nodes) (suc at) inside = by nodes at (omega arith)

pub put_gone : (nodes : List (List RowData)) (at : ℕ) (node : List RowData) → at < length nodes → replaced (replaced nodes at (at + 1) (node ∷ [])) at (at + 1) [] ≡ replaced nodes at (at + 1) []
put_gone nodes at node inside = rw add-one (by nodes at inside)
  where
    by : (nodes : List (List RowData)) (at : ℕ) → at < length nodes → replaced (replaced nodes at (suc at) (node ∷ [])) at (suc at) [] ≡ replaced nodes at (suc at) []
    by [] at inside = absurd (omega arith)
    by (x ∷ nodes) zero inside = refl
    by (x ∷ nodes) (suc at) inside = ap (λ (r : List (List RowData)). x ∷ r) (by nodes at (omega arith))

pub place_same : (parts others : List (List RowData)) (key other : List ℕ) (at : ℕ) → parts ≡ others → key ≡ other → IsPageFor parts key at → IsPageFor others other at
place_same parts others key other at same equal is =
    subst (λ (k : List ℕ). IsPageFor others k at) equal (subst (λ (p : List (List RowData)). IsPageFor p key at) same is)

-- either way
pub either : {A E : Type 0} (r : Result A E) (P Q R : Type 0) → OnOk r P → OnErr r Q → (P → R) → (Q → R) → R
either (Ok x) P Q R ok err done refused = done ok
either (Err e) P Q R ok err done refused = refused err

-- ---- how many pages

pub tight_pages : (pages : List (List RowData)) → AreSized pages → AreFull pages → 33 * length pages ≤ 2 * length (joined pages) + 31
tight_pages [] sized full = omega arith
tight_pages (page ∷ []) sized full = omega (arith, sized.0, length-append page [])
tight_pages (page ∷ next ∷ pages) sized full =
    let both : 32 < length page + length next = full.0 in
    let rest = tight_pages pages sized.2.2 full.1.1 in
    omega (arith, both, rest, length-append page (next ++ joined pages), length-append next (joined pages))

pub large_count : (nodes : List (List RowData)) → HoldEach 512 nodes → 512 * length nodes ≤ length (joined nodes)
large_count [] large = omega arith
large_count (node ∷ nodes) large = omega (arith, large.0, large_count nodes large.1, length-append node (joined nodes))

pub some_count : (nodes : List (List RowData)) (n : ℕ) → HoldEach 1 nodes → n ≤ length nodes → n ≤ length (joined (take n nodes))
some_count nodes zero some within = omega arith
some_count [] (suc n) some within = absurd (omega arith)
some_count (node ∷ nodes) (suc n) some within = omega (arith, some.0, some_count nodes n some.1 (omega arith), length-append node (joined (take n nodes)))

-- of nodes each of which has at most so many
pub few_all : (nodes : List (List RowData)) (count : ℕ) → IsNoded nodes → 33 * count ≤ 2 * length (joined nodes) + 31 * length nodes → count ≤ length (joined nodes) / 16 + 1
few_all [] count noded few = omega (arith, few)
few_all (node ∷ []) count noded few = omega (arith, few)
few_all (node ∷ next ∷ nodes) count noded few =
    let many = large_count (node ∷ next ∷ nodes) (noded.large (omega arith)) in
    omega (arith, few, many)

-- ---- parts of a node

full_take : (pages : List (List RowData)) (n : ℕ) → AreFull pages → AreFull (take n pages)
full_take pages zero full = tt
full_take [] (suc n) full = tt
full_take (page ∷ pages) (suc zero) full = (tt, tt)
full_take (page ∷ []) (suc (suc n)) full = full
full_take (page ∷ next ∷ pages) (suc (suc n)) full = (full.0, full_take (next ∷ pages) (suc n) full.1)

pub front_back : (pages : List (List RowData)) (n : ℕ) → joined (take n pages) ++ joined (drop n pages) ≡ joined pages
front_back pages n = sym (joined-append (take n pages) (drop n pages)) ∙ ap joined (take-append-drop n pages)

pub paged_take : (pages : List (List RowData)) (n : ℕ) → IsPaged pages → IsPaged (take n pages)
paged_take pages n paged =
    let all = rising _ (subst (λ (r : List RowData). AreRising r) (sym (front_back pages n)) paged.rising) in
    record { sized = sized-take pages n paged.sized; full = full_take pages n paged.full; rising = are_rising _ (rising_parts (joined (take n pages)) (joined (drop n pages)) all).0 }

pub paged_drop : (pages : List (List RowData)) (n : ℕ) → IsPaged pages → IsPaged (drop n pages)
paged_drop pages n paged =
    let all = rising _ (subst (λ (r : List RowData). AreRising r) (sym (front_back pages n)) paged.rising) in
    record { sized = sized-drop pages n paged.sized; full = full_drop pages n paged.full; rising = are_rising _ (rising_parts (joined (take n pages)) (joined (drop n pages)) all).1 }

-- pages that are many hold many rows
pub large_pages : (pages : List (List RowData)) → IsPaged pages → 32 ≤ length pages → 512 ≤ length (joined pages)
large_pages pages paged many = omega (arith, tight_pages pages paged.sized paged.full, many)

-- ---- pages put behind others

-- the last of some pages and the first of others
pub seam_take : (xs ys : List (List RowData)) (n : ℕ) → length xs ≡ suc n → (take n (xs ++ ys) ≡ take n xs) × (drop (suc (suc n)) (xs ++ ys) ≡ drop 1 ys)
seam_take [] ys n long = absurd (omega arith)
seam_take (x ∷ []) ys zero long = (refl, refl)
seam_take (x ∷ []) ys (suc n) long = absurd (omega arith)
seam_take (x ∷ y ∷ xs) ys zero long = absurd (omega arith)
seam_take (x ∷ y ∷ xs) ys (suc n) long =
    let rest = seam_take (y ∷ xs) ys n (omega arith) in
    (ap (λ (r : List (List RowData)). x ∷ r) rest.0, rest.1)

seam_pages : (xs ys : List (List RowData)) (n : ℕ) → length xs ≡ suc n → (page_at (xs ++ ys) n ≡ page_at xs n) × (page_at (xs ++ ys) (suc n) ≡ page_at ys 0)
seam_pages [] ys n long = absurd (omega arith)
seam_pages (x ∷ []) ys zero long = (refl, refl)
seam_pages (x ∷ []) ys (suc n) long = absurd (omega arith)
seam_pages (x ∷ y ∷ xs) ys zero long = absurd (omega arith)
seam_pages (x ∷ y ∷ xs) ys (suc n) long = seam_pages (y ∷ xs) ys n (omega arith)

pub take_all : (xs : List (List RowData)) (n : ℕ) → length xs ≤ n → take n xs ≡ xs
take_all [] zero long = refl
take_all [] (suc n) long = refl
take_all (x ∷ xs) zero long = absurd (omega arith)
take_all (x ∷ xs) (suc n) long = ap (λ (r : List (List RowData)). x ∷ r) (take_all xs n (omega arith))

module _ (xs ys : List (List RowData)) (n : ℕ) (long : length xs ≡ suc n) (sized : AreSized xs) (full : AreFull xs) (more_sized : AreSized ys) (more_full : AreFull ys) where
  -- two pages that stay apart
  pub append_apart : 32 < length (page_at (xs ++ ys) n) + length (page_at (xs ++ ys) (suc n)) → ArePagesOf (xs ++ ys) (joined xs ++ joined ys)
  append_apart apart = record {
    rows_are = joined-append xs ys;
    sized = sized-append xs ys sized more_sized;
    full = subst (λ (r : List (List RowData)). AreFull (r ++ ys)) (take_all xs (suc n) (omega (arith, long))) (full_from xs (suc n) ys (omega (arith, long)) full more_full (touches_at xs n ys (omega (arith, long)) (meet ys refl)));
  }
    where
      meet : (zs : List (List RowData)) → ys ≡ zs → FullWith (page_at xs n) zs
      meet [] e = tt
      meet (z ∷ zs) e =
          let places = seam_pages xs ys n long in
          let second : page_at ys 0 ≡ z = ap (λ (r : List (List RowData)). page_at r 0) e in
          omega (arith, apart, ap length places.0, ap length places.1, ap length second)

-- two that become one
pub append_one : (xs ys : List (List RowData)) (y : List RowData) (n : ℕ) → length xs ≡ suc n → AreSized xs → AreFull xs → AreSized (y ∷ ys) → AreFull (y ∷ ys) → length (page_at xs n) + length y ≤ 32 → ArePagesOf (take n xs ++ ((page_at xs n ++ y) ∷ ys)) (joined xs ++ joined (y ∷ ys))
append_one xs ys y n long sized full more_sized more_full few =
    let last = page_at xs n in
    let here : n < length xs = omega (arith, long) in
    let both = length-append last y in
    record {
      rows_are =
          joined-append (take n xs) ((last ++ y) ∷ ys)
          ∙ regroup (joined (take n xs)) last y (joined ys)
          ∙ ap (λ (r : List RowData). r ++ (y ++ joined ys)) (sym (joined_take xs n here) ∙ ap joined (take_all xs (suc n) (omega (arith, long))));
      sized = sized-append (take n xs) ((last ++ y) ∷ ys) (sized-take xs n sized) (omega (arith, both, more_sized.0), omega (arith, both, few), more_sized.2);
      full = full_from xs n ((last ++ y) ∷ ys) (omega (arith, here)) full (full_more y (last ++ y) ys (omega (arith, both)) more_full.0, more_full.1)
          (touches_more xs n last (last ++ y) (drop (suc n) xs) ys (omega (arith, both)) (touches_page xs n full here));
    }
  where
    regroup : (a b c d : List RowData) → a ++ ((b ++ c) ++ d) ≡ (a ++ b) ++ (c ++ d)
    regroup a b c d = simp append_assoc

pub append_joined : (xs ys : List (List RowData)) (n : ℕ) → length xs ≡ suc n → AreSized xs → AreFull xs → AreSized ys → AreFull ys → 0 < length ys → length (page_at (xs ++ ys) n) + length (page_at (xs ++ ys) (suc n)) ≤ 32 → ArePagesOf (replaced (xs ++ ys) n (suc (suc n)) ((page_at (xs ++ ys) n ++ page_at (xs ++ ys) (suc n)) ∷ [])) (joined xs ++ joined ys)
append_joined xs [] n long sized full more_sized more_full some few = absurd (omega arith)
append_joined xs (y ∷ ys) n long sized full more_sized more_full some few =
    let places = seam_pages xs (y ∷ ys) n long in
    let cut = seam_take xs (y ∷ ys) n long in
    let pair : page_at (xs ++ (y ∷ ys)) n ++ page_at (xs ++ (y ∷ ys)) (suc n) ≡ page_at xs n ++ y = ap (λ (p : List RowData). p ++ page_at (xs ++ (y ∷ ys)) (suc n)) places.0 ∙ ap (λ (p : List RowData). page_at xs n ++ p) places.1 in
    let all : replaced (xs ++ (y ∷ ys)) n (suc (suc n)) ((page_at (xs ++ (y ∷ ys)) n ++ page_at (xs ++ (y ∷ ys)) (suc n)) ∷ []) ≡ take n xs ++ ((page_at xs n ++ y) ∷ ys) =
    ap (λ (p : List (List RowData)). p ++ ((page_at (xs ++ (y ∷ ys)) n ++ page_at (xs ++ (y ∷ ys)) (suc n)) ∷ drop (suc (suc n)) (xs ++ (y ∷ ys)))) cut.0
    ∙ ap (λ (p : List (List RowData)). take n xs ++ ((page_at (xs ++ (y ∷ ys)) n ++ page_at (xs ++ (y ∷ ys)) (suc n)) ∷ p)) cut.1
    ∙ ap (λ (p : List RowData). take n xs ++ (p ∷ ys)) pair in
    subst (λ (p : List (List RowData)). ArePagesOf p (joined xs ++ joined (y ∷ ys))) (sym all) (append_one xs ys y n long sized full more_sized more_full (omega (arith, few, ap length places.0, ap length places.1)))

-- ---- counts

-- one that is too small for one of many is alone
pub sole_of : (n k : ℕ) → (1 < n → 512 < k) → k ≤ 1 → n ≤ 1
sole_of zero k large few = omega arith
sole_of (suc zero) k large few = omega arith
sole_of (suc (suc n)) k large few = let more : 512 < k = large (omega arith) in absurd (omega (arith, more, few))

pub part_few : (nodes : List (List RowData)) (at : ℕ) → at < length nodes → length (page_at nodes at) ≤ length (joined nodes)
part_few nodes at inside =
    omega (arith, ap length (joined_at nodes at inside), length-append (joined (take at nodes)) (page_at nodes at ++ joined (drop (suc at) nodes)), length-append (page_at nodes at) (joined (drop (suc at) nodes)))

module _ {A : Type 0} where
  -- what a put adds to one node it adds to all
  pub grows : (old : Option A) (m n : ℕ) → MatchOption old (m ≡ n + 1) (λ _. m ≡ n) → n ≤ m
  grows None m n is = omega (arith, is)
  grows (Some x) m n is = omega (arith, is)

  pub put_count : (old : Option A) (m n p q : ℕ) → MatchOption old (m ≡ n + 1) (λ _. m ≡ n) → p + n ≡ q + m → MatchOption old (p ≡ q + 1) (λ _. p ≡ q)
  put_count None m n p q is all = omega (arith, is, all)
  put_count (Some x) m n p q is all = omega (arith, is, all)

  -- and a removal takes
  pub shrinks : (old : Option A) (m n : ℕ) → MatchOption old (m ≡ n) (λ _. m + 1 ≡ n) → (n ≤ m + 1) × (m ≤ n)
  shrinks None m n is = (omega (arith, is), omega (arith, is))
  shrinks (Some x) m n is = (omega (arith, is), omega (arith, is))

  pub gone_count : (old : Option A) (m n p q : ℕ) → MatchOption old (m ≡ n) (λ _. m + 1 ≡ n) → p + n ≡ q + m → MatchOption old (p ≡ q) (λ _. p + 1 ≡ q)
  gone_count None m n p q is all = omega (arith, is, all)
  gone_count (Some x) m n p q is all = omega (arith, is, all)

-- ---- all nodes after a change of one

pub with_length : (nodes : List (List RowData)) (row : RowData) (at : ℕ) → IsPageFor nodes (key_of row) at → length (with_row (joined nodes) row) + length (page_at nodes at) ≡ length (joined nodes) + length (with_row (page_at nodes at) row)
with_length nodes row at for_key =
    omega (arith, one_length nodes at (with_row (page_at nodes at) row) for_key.inside, ap length (put_rows nodes row at for_key))

pub without_length : (nodes : List (List RowData)) (key : List ℕ) (at : ℕ) → IsPageFor nodes key at → length (without (joined nodes) key) + length (page_at nodes at) ≡ length (joined nodes) + length (without (page_at nodes at) key)
without_length nodes key at for_key =
    omega (arith, one_length nodes at (without (page_at nodes at) key) for_key.inside, ap length (gone_rows nodes key at for_key))

pub put_noded : (nodes : List (List RowData)) (row : RowData) (at : ℕ) → IsNoded nodes → IsPageFor nodes (key_of row) at → length (page_at nodes at) ≤ length (with_row (page_at nodes at) row) → IsNoded (replaced nodes at (at + 1) (with_row (page_at nodes at) row ∷ []))
put_noded nodes row at noded for_key more =
    noded_one nodes at noded for_key.inside (with_row (page_at nodes at) row)
    (omega (arith, more, hold_at 1 nodes at noded.some for_key.inside))
    (λ many. omega (arith, more, hold_at 512 nodes at (noded.large many) for_key.inside))
    (subst (λ (r : List RowData). AreRising r) (sym (put_rows nodes row at for_key)) (put_stays_rising (joined nodes) row noded.rising))

module _ (nodes : List (List RowData)) (key : List ℕ) (at : ℕ) (noded : IsNoded nodes) (for_key : IsPageFor nodes key at) where
  pub gone_rising : AreRising (joined (replaced nodes at (at + 1) (without (page_at nodes at) key ∷ [])))
  gone_rising = subst (λ (r : List RowData). AreRising r) (sym (gone_rows nodes key at for_key)) (removal_stays_rising (joined nodes) key noded.rising)

  pub gone_noded : 0 < length (without (page_at nodes at) key) → (1 < length nodes → 512 ≤ length (without (page_at nodes at) key)) → IsNoded (replaced nodes at (at + 1) (without (page_at nodes at) key ∷ []))
  gone_noded some large = noded_one nodes at noded for_key.inside (without (page_at nodes at) key) some large gone_rising

  -- where nothing is left
  pub whole_rows : length (without (page_at nodes at) key) ≡ 0 → joined (replaced nodes at (at + 1) []) ≡ without (joined nodes) key
  whole_rows none = empty_rows nodes at (without (page_at nodes at) key) none ∙ gone_rows nodes key at for_key

  pub whole_noded : length (without (page_at nodes at) key) ≡ 0 → length nodes ≤ 1 → IsNoded (replaced nodes at (at + 1) [])
  whole_noded none sole =
      noded_none nodes at noded for_key.inside sole (subst (λ (r : List RowData). AreRising r) (sym (whole_rows none)) (removal_stays_rising (joined nodes) key noded.rising))

-- ---- nodes that are filled one after the other

pub one_node : (nodes pages : List (List RowData)) (n : ℕ) → joined (nodes ++ (joined (take n pages) ∷ [])) ++ joined (drop n pages) ≡ joined nodes ++ joined pages
one_node nodes pages n =
    ap (λ (r : List RowData). r ++ joined (drop n pages)) (joined-append nodes (joined (take n pages) ∷ []))
    ∙ regroup (joined nodes) (joined (take n pages)) (joined (drop n pages))
    ∙ ap (λ (r : List RowData). joined nodes ++ r) (front_back pages n)
  where
    regroup : (a b c : List RowData) → (a ++ (b ++ [])) ++ c ≡ a ++ (b ++ c)
    regroup a b c = simp (append_assoc, append-nil)

last_rows_is : (nodes pages : List (List RowData)) → joined (nodes ++ (joined pages ∷ [])) ≡ joined nodes ++ joined pages
last_rows_is nodes pages = joined-append nodes (joined pages ∷ []) ∙ ap (λ (r : List RowData). joined nodes ++ r) (append-nil (joined pages))

pub last_node : (nodes pages all : List (List RowData)) → joined nodes ++ joined pages ≡ joined all → joined (nodes ++ (joined pages ∷ [])) ≡ joined all
last_node nodes pages all same = last_rows_is nodes pages ∙ same

pub noded_last : (nodes pages all : List (List RowData)) → HoldEach 512 nodes → IsPaged pages → 0 < length pages → (0 < length nodes → 32 ≤ length pages) → joined nodes ++ joined pages ≡ joined all → AreRising (joined all) → IsNoded (nodes ++ (joined pages ∷ []))
noded_last nodes pages all large paged some many same is = record {
  some = hold-append 1 nodes (joined pages ∷ []) (some_of_large nodes large) (omega (arith, some, tight_pages pages paged.sized paged.full), tt);
  large = λ more.
      let few : 0 < length nodes = omega (arith, more, length-append nodes (joined pages ∷ [])) in
      hold-append 512 nodes (joined pages ∷ []) large (large_pages pages paged (many few), tt);
  rising = subst (λ (r : List RowData). AreRising r) (sym (last_node nodes pages all same)) is;
}

pub noded_all : (nodes pages all : List (List RowData)) → HoldEach 512 nodes → length pages ≡ 0 → joined nodes ++ joined pages ≡ joined all → AreRising (joined all) → IsNoded nodes × (joined nodes ≡ joined all)
noded_all nodes [] all large none same is =
    let rows = sym (append-nil (joined nodes)) ∙ same in
    (record { some = some_of_large nodes large; large = λ many. large; rising = subst (λ (r : List RowData). AreRising r) (sym rows) is }, rows)
noded_all nodes (page ∷ pages) all large none same is = absurd (omega arith)

pub on_ok : {A E : Type 0} (r : Result A E) (P Q : Type 0) → (P → Q) → OnOk r P → OnOk r Q
on_ok (Ok x) P Q follows holds = follows holds
on_ok (Err e) P Q follows holds = tt
