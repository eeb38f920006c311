-- Of a log that nobody else holds, reads have one answer.
use Rattle.std.specs.Prelude.{Bool, Result, Ok, Err}
use Rattle.std.proofs.Common.{◌≡◌, ℕ, ◌≤◌, List, Option, Some, ap, sym, ◌∙◌, subst, arith}
use Rattle.kube_meta.specs.Rows.{RowData, behind}
use Rattle.rev_front.specs.Passes.{Pass, IsPass, Whole, end_from, revision}
use Rattle.rev_log.specs.Changes.{RevisionData}
use Rattle.rev_log.specs.Logs.{Log, Fits}
use Rattle.rev_log.specs.States.{row_at}
use Rattle.up_api.specs.Sections.{log_of}
use Rattle.select_all.specs.declared.selection.Meaning.{Meaning}
use Rattle.select_all.specs.declared.selection.Meaning.TheVariants.{MostRecent, Any, NotOlder, Exact}
use Rattle.select_all.specs.Listings.{IsListing}
use Rattle.select_all.specs.Selecting.{selects}
use Rattle.select_all.proofs.ListingLaws.{listings_are_one}
use Rattle.list_rules.specs.declared.ask.ListAsk.{ListAsk}
use Rattle.list_rules.specs.declared.get.GetAsk.{GetAsk}
use Rattle.watch_rules.specs.declared.ask.WatchAsk.{WatchAsk}
use Rattle.client_api.specs.Alone.{known, IsSoleRead}
use Rattle.client_api.specs.Answers.{GotData, ListedData}
use Rattle.client_api.specs.Fresh.{IsFresh}
use Rattle.client_api.specs.Gets.{IsGetAnswer}
use Rattle.client_api.specs.Lists.{IsListAnswer, IsListed, page_at}
use Rattle.client_api.specs.Refusals.{IsTooLarge, IsExpired, revision_named}
use Rattle.client_api.specs.Starts.{StartsTooLarge}
use Rattle.client_api.specs.Told.{IsToldRead}
use Rattle.client_api.specs.declared.answers.ListNo.{ListNo}
use Rattle.client_api.specs.declared.answers.ListNo.TheVariants.{Expired, TooLarge, Absent, Memory}
use Rattle.client_api.proofs.LawLemmas.{loads_do_end}
use Rattle.sess_reply.specs.Replies.{got, listed}
use Rattle.sess_serve.specs.Answers.{replied}
use Rattle.laws.specs.Determined.{AreOne, IsSound}
use Rattle.laws.proofs.WriteLemmas.{none_is_some, same_some}

-- the revision of a read, of a log that ends there
abbrev read-at : ℕ → Meaning → ℕ
read-at end MostRecent = end
read-at end Any = end
read-at end (NotOlder asked) = end
read-at end (Exact asked) = asked

same-exact : (a b : ℕ) → Exact a ≡ Exact b → a ≡ b
same-exact a b is = cc

same-older : (a b : ℕ) → ◌≡◌ {A = Option Meaning} (Some (NotOlder a)) (Some (NotOlder b)) → a ≡ b
same-older a b is = cc

-- ---- one read

module _ (p q : Pass RevisionData) (sound : IsSound p) (lawful : IsPass Fits q) (sole : IsSoleRead p q) where
  pub end-stays : end_from q.first q.seen ≡ end_from p.first p.seen
  end-stays = ap (λ (w : Whole RevisionData). revision w) sole.same

  pub floor-stays : q.floor ≡ p.floor
  floor-stays = ap (λ (w : Whole RevisionData). w.floor) sole.same

  pub fresh_at : (meaning : Meaning) (at : ℕ) → IsFresh p meaning at q → at ≡ read-at (end_from p.first p.seen) meaning
  fresh_at MostRecent at is = omega (arith, is.seen, is.meets.1, loads_do_end p q is.meets.0 sole.loads, end-stays)
  fresh_at Any at is = omega (arith, is.seen, is.meets, sound.lawful.within, end-stays)
  fresh_at (NotOlder asked) at is = omega (arith, is.seen, is.meets.1, sound.lawful.within, end-stays)
  fresh_at (Exact asked) at is = is.meets.0

  pub current_at : (meaning : Meaning) (asked current : ℕ) → IsTooLarge p meaning asked current q → current ≡ end_from p.first p.seen
  current_at meaning asked current is = omega (arith, is.current_is, loads_do_end p q is.loaded sole.loads, end-stays)

  -- a fresh revision is no lower than the one that is named
  pub named_low : (meaning : Meaning) (asked at : ℕ) → revision_named meaning ≡ Some asked → IsFresh p meaning at q → asked ≤ at
  named_low MostRecent asked at named is = absurd (none_is_some asked named)
  named_low Any asked at named is = absurd (none_is_some asked named)
  named_low (NotOlder other) asked at named is = omega (arith, same_some other asked named, is.meets.0)
  named_low (Exact other) asked at named is = omega (arith, same_some other asked named, is.meets.0)

  -- nor below the floor, where it alone will do
  pub exact_kept : (meaning : Meaning) (asked at : ℕ) → meaning ≡ Exact asked → IsFresh p meaning at q → p.floor ≤ asked
  exact_kept MostRecent asked at exact is = absurd (let e : Exact asked ≡ MostRecent = sym exact in cc)
  exact_kept Any asked at exact is = absurd (let e : Exact asked ≡ Any = sym exact in cc)
  exact_kept (NotOlder other) asked at exact is = absurd (let e : Exact asked ≡ NotOlder other = sym exact in cc)
  exact_kept (Exact other) asked at exact is = omega (arith, same-exact other asked exact, is.meets.0, is.meets.1, floor-stays)

-- ---- two of them

module _ (p q o r : Pass RevisionData) (sound : IsSound p) (lawful : IsPass Fits q) (sole : IsSoleRead p q)
    (sound' : IsSound o) (lawful' : IsPass Fits r) (sole' : IsSoleRead o r) (same : known o ≡ known p) where
  same-end : end_from o.first o.seen ≡ end_from p.first p.seen
  same-end = ap (λ (w : Whole RevisionData). revision w) same

  same-floor : o.floor ≡ p.floor
  same-floor = ap (λ (w : Whole RevisionData). w.floor) same

  same-log : (base : List RowData) → log_of base r ≡ log_of base q
  same-log base = ap (λ (w : Whole RevisionData). record { first = w.first; base = base; revisions = w.log }) (sole'.same ∙ same ∙ sym sole.same)

  one-revision : (meaning : Meaning) (at later : ℕ) → IsFresh p meaning at q → IsFresh o meaning later r → later ≡ at
  one-revision meaning at later is is' =
      fresh_at o r sound' lawful' sole' meaning later is' ∙ ap (λ (end : ℕ). read-at end meaning) same-end ∙ sym (fresh_at p q sound lawful sole meaning at is)

  -- what is answered isn't too large, nor expired
  fresh-or-large : (meaning : Meaning) (at asked current : ℕ) → IsFresh p meaning at q → IsTooLarge o meaning asked current r → ⊥
  fresh-or-large meaning at asked current is large =
      absurd (omega (
        arith,
        named_low p q sound lawful sole meaning asked at large.named is,
        is.seen,
        end-stays p q sound lawful sole,
        same-end,
        current_at o r sound' lawful' sole' meaning asked current large,
        large.above,
      ))

  fresh-or-expired : (meaning : Meaning) (at asked floor : ℕ) → IsFresh p meaning at q → IsExpired meaning asked floor r → ⊥
  fresh-or-expired meaning at asked floor is expired =
      absurd (omega (arith, exact_kept p q sound lawful sole meaning asked at expired.exact is, expired.below, expired.known, floor-stays o r sound' lawful' sole', same-floor))

  -- what is expired isn't too large
  expired-or-large : (meaning : Meaning) (asked floor other current : ℕ) → IsExpired meaning asked floor q → IsTooLarge o meaning other current r → ⊥
  expired-or-large meaning asked floor other current expired large =
      let one : asked ≡ other = same_some asked other (subst (λ (m : Meaning). revision_named m ≡ Some other) expired.exact large.named) in
      absurd (omega (
        arith,
        one,
        expired.below,
        expired.known,
        floor-stays p q sound lawful sole,
        sound.floor,
        same-end,
        current_at o r sound' lawful' sole' meaning other current large,
        large.above,
      ))

  one-refusal : (meaning : Meaning) (asked current other later : ℕ) → IsTooLarge p meaning asked current q → IsTooLarge o meaning other later r →
      TooLarge other later ≡ TooLarge asked current
  one-refusal meaning asked current other later is is' =
      let first : other ≡ asked = same_some other asked (sym is'.named ∙ is.named) in
      let second : later ≡ current = current_at o r sound' lawful' sole' meaning other later is' ∙ same-end ∙ sym (current_at p q sound lawful sole meaning asked current is) in
      λ i. TooLarge (first i) (second i)

  -- watches that can't begin
  pub one_start : (ask : WatchAsk) (asked current other later : ℕ) → StartsTooLarge p ask asked current q → StartsTooLarge o ask other later r →
      TooLarge other later ≡ TooLarge asked current
  one_start ask asked current other later is is' =
      let first : other ≡ asked = same-older other asked (sym is'.asks ∙ is.asks) in
      let second : later ≡ current =
      current_at o r sound' lawful' sole' (NotOlder other) other later is'.too_large ∙ same-end ∙ sym (current_at p q sound lawful sole (NotOlder asked) asked current is.too_large) in
      λ i. TooLarge (first i) (second i)

  -- ---- lists

  page-is : (base : List RowData) (x y : Pass RevisionData) (ask : ListAsk) (page : ListedData) (is : IsListed base x ask page y) → page ≡ page_at ask page.rev (behind ask.after is.all)
  page-is base x y ask page is = λ i. record { rev = page.rev; rows = is.rows_are i; more = is.more_is i }

  one-page : (base : List RowData) (ask : ListAsk) (page later : ListedData) → IsListed base p ask page q → IsListed base o ask later r → later ≡ page
  one-page base ask page later is is' =
      let rev : later.rev ≡ page.rev = one-revision ask.meaning page.rev later.rev is.fresh is'.fresh in
      let there : IsListing (log_of base q) ask.selection page.rev is'.all =
      subst (λ (z : Log × ℕ). IsListing z.0 ask.selection z.1 is'.all) {x = (log_of base r, later.rev)} {y = (log_of base q, page.rev)} (λ i. (same-log base i, rev i)) is'.listing in
      let all : is'.all ≡ is.all = listings_are_one (selects ask.selection) (log_of base q) ask.selection.resource page.rev is'.all is.all there is.listing in
      page-is base o r ask later is' ∙ (λ i. page_at ask (rev i) (behind ask.after (all i))) ∙ sym (page-is base p q ask page is)

-- the answer of the second is that of the first
module _ (base : List RowData) (p q o r : Pass RevisionData) (sound : IsSound p) (lawful : IsPass Fits q) (sole : IsSoleRead p q)
    (sound' : IsSound o) (lawful' : IsPass Fits r) (sole' : IsSoleRead o r) (same : known o ≡ known p) where
  pub one_list : (mirror : Bool) (ask : ListAsk) (a b : Result ListedData ListNo) → IsToldRead a → IsToldRead b → IsListAnswer base p ask a q → IsListAnswer base o ask b r →
      AreOne mirror (replied (listed ask a)) (replied (listed ask b))
  one_list mirror ask a (Err (Absent at)) told told' is is' = absurd is'
  one_list mirror ask a (Err Memory) told told' is is' = absurd told'
  one_list mirror ask (Ok page) (Ok later) told told' is is' =
      ap (λ (x : ListedData). replied (listed ask (Ok x))) (one-page p q o r sound lawful sole sound' lawful' sole' same base ask page later is is')
  one_list mirror ask (Ok page) (Err (Expired asked floor)) told told' is is' =
      absurd (fresh-or-expired p q o r sound lawful sole sound' lawful' sole' same ask.meaning page.rev asked floor is.fresh is')
  one_list mirror ask (Ok page) (Err (TooLarge asked current)) told told' is is' =
      absurd (fresh-or-large p q o r sound lawful sole sound' lawful' sole' same ask.meaning page.rev asked current is.fresh is')
  one_list mirror ask (Err (Expired asked floor)) (Ok later) told told' is is' =
      absurd (fresh-or-expired o r p q sound' lawful' sole' sound lawful sole (sym same) ask.meaning later.rev asked floor is'.fresh is)
  one_list mirror ask (Err (Expired asked floor)) (Err (Expired other n)) told told' is is' =
      (n, ap (λ (x : ℕ). replied (listed ask (Err (Expired x n)))) (same-exact other asked (sym is'.exact ∙ is.exact)))
  one_list mirror ask (Err (Expired asked floor)) (Err (TooLarge other current)) told told' is is' =
      absurd (expired-or-large p q o r sound lawful sole sound' lawful' sole' same ask.meaning asked floor other current is is')
  one_list mirror ask (Err (TooLarge asked current)) (Ok later) told told' is is' =
      absurd (fresh-or-large o r p q sound' lawful' sole' sound lawful sole (sym same) ask.meaning later.rev asked current is'.fresh is)
  one_list mirror ask (Err (TooLarge asked current)) (Err (Expired other n)) told told' is is' =
      absurd (expired-or-large o r p q sound' lawful' sole' sound lawful sole (sym same) ask.meaning other n asked current is' is)
  one_list mirror ask (Err (TooLarge asked current)) (Err (TooLarge other later)) told told' is is' =
      ap (λ (no : ListNo). replied (listed ask (Err no))) (one-refusal p q o r sound lawful sole sound' lawful' sole' same ask.meaning asked current other later is is')
  one_list mirror ask (Err (Absent at)) b told told' is is' = absurd is
  one_list mirror ask (Err Memory) b told told' is is' = absurd told

  -- ---- gets

  row-there : (ask : GetAsk) (at later : ℕ) → IsFresh p ask.meaning at q → IsFresh o ask.meaning later r →
      row_at (log_of base r) ask.resource later ask.key ≡ row_at (log_of base q) ask.resource at ask.key
  row-there ask at later is is' =
      let rev : later ≡ at = one-revision p q o r sound lawful sole sound' lawful' sole' same ask.meaning at later is is' in
      λ i. row_at (same-log p q o r sound lawful sole sound' lawful' sole' same base i) ask.resource (rev i) ask.key

  pub one_get : (ask : GetAsk) (a b : Result GotData ListNo) → IsToldRead a → IsToldRead b → IsGetAnswer base p ask a q → IsGetAnswer base o ask b r →
      replied (got ask b) ≡ replied (got ask a)
  one_get ask a (Err (Expired asked floor)) told told' is is' = absurd is'
  one_get ask a (Err Memory) told told' is is' = absurd told'
  one_get ask (Ok given) (Ok later) told told' is is' =
      let rev : later.at ≡ given.at = one-revision p q o r sound lawful sole sound' lawful' sole' same ask.meaning given.at later.at is.fresh is'.fresh in
      let row : later.row ≡ given.row = same_some later.row given.row (sym is'.row ∙ row-there ask given.at later.at is.fresh is'.fresh ∙ is.row) in
      λ i. replied (got ask (Ok (record { row = row i; at = rev i })))
  one_get ask (Ok given) (Err (TooLarge asked current)) told told' is is' =
      absurd (fresh-or-large p q o r sound lawful sole sound' lawful' sole' same ask.meaning given.at asked current is.fresh is')
  one_get ask (Ok given) (Err (Absent at)) told told' is is' =
      absurd (none_is_some given.row (sym is'.row ∙ row-there ask given.at at is.fresh is'.fresh ∙ is.row))
  one_get ask (Err (TooLarge asked current)) (Ok later) told told' is is' =
      absurd (fresh-or-large o r p q sound' lawful' sole' sound lawful sole (sym same) ask.meaning later.at asked current is'.fresh is)
  one_get ask (Err (TooLarge asked current)) (Err (TooLarge other later)) told told' is is' =
      ap (λ (no : ListNo). replied (got ask (Err no))) (one-refusal p q o r sound lawful sole sound' lawful' sole' same ask.meaning asked current other later is is')
  one_get ask (Err (TooLarge asked current)) (Err (Absent at)) told told' is is' =
      absurd (fresh-or-large o r p q sound' lawful' sole' sound lawful sole (sym same) ask.meaning at asked current is'.fresh is)
  one_get ask (Err (Absent at)) (Ok later) told told' is is' =
      absurd (none_is_some later.row (sym is.row ∙ sym (row-there ask at later.at is.fresh is'.fresh) ∙ is'.row))
  one_get ask (Err (Absent at)) (Err (TooLarge asked current)) told told' is is' =
      absurd (fresh-or-large p q o r sound lawful sole sound' lawful' sole' same ask.meaning at asked current is.fresh is')
  one_get ask (Err (Absent at)) (Err (Absent later)) told told' is is' =
      ap (λ (x : ℕ). replied (got ask (Err (Absent x)))) (one-revision p q o r sound lawful sole sound' lawful' sole' same ask.meaning at later is.fresh is'.fresh)
  one_get ask (Err (Expired asked floor)) b told told' is is' = absurd is
  one_get ask (Err Memory) b told told' is is' = absurd told
