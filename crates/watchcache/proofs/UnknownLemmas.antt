-- What is told of the record of an unknown log.
use Rattle.std.proofs.Common.{◌≡◌, ◌≢◌, ℕ, List, ◌++◌, Option, Some, None, Result, Ok, Err, refl, sym, subst, ap}
use Rattle.std.specs.Prelude.{codes, decimal, MatchOption}
use Rattle.body_check.specs.declared.verdict.Verdict.TheVariants.{Lawful}
use Rattle.watch_record.specs.Between.{IsNoBetween, IsRefusedBy, watched_of}
use Rattle.watch_record.specs.Lines.{first_line}
use Rattle.watch_record.specs.declared.between_refusal.BetweenNo.{BetweenNo}
use Rattle.watch_record.specs.declared.between_refusal.BetweenNo.TheVariants.{BadHeader, Memory}
use Rattle.watch_record.specs.declared.header.Header.{Header}
use Rattle.watchcache.specs.Run.{IsSaidBetween}
use Rattle.watchcache.specs.Texts.{unknown_verdict}
use Rattle.watchcache.specs.declared.unknown.Judged.{Judged}

pub held_text : (first last some all : List ℕ) (from to held lists : ℕ) → first ≡ decimal from → last ≡ decimal to → some ≡ decimal held → all ≡ decimal lists
    → codes "lawful from " ++ (first ++ (codes " to " ++ (last ++ (codes ", " ++ (some ++ (codes " of " ++ (all ++ codes " lists held\n"))))))) ≡ unknown_verdict (Lawful from to held) lists
held_text first last some all from to held lists first-is last-is some-is all-is = rw (first-is, last-is, some-is, all-is) refl

-- bytes whose header is no such one
pub no_header : (bytes : List ℕ) → IsNoBetween bytes BadHeader → watched_of (first_line bytes) ≡ None
no_header bytes is = by_header (watched_of (first_line bytes)) is
  where
    by_header : (found : Option Header) → IsRefusedBy bytes found BadHeader → found ≡ None
    by_header None is = refl
    by_header (Some header) is = absurd is

-- what is said otherwise is said of bytes with such a header
pub has_header : (bytes : List ℕ) (judged : Result Judged BetweenNo) (X Y : Type 0) → IsSaidBetween bytes judged → judged ≢ Err BadHeader → Y
    → MatchOption (watched_of (first_line bytes)) X (λ header. Y)
has_header bytes (Ok judged) X Y said other here = subst (λ (found : Option Header). MatchOption found X (λ header. Y)) (sym said.1.header_is) here
has_header bytes (Err why) X Y said other here = by_header (watched_of (first_line bytes)) said
  where
    by_header : (found : Option Header) → IsRefusedBy bytes found why → MatchOption found X (λ header. Y)
    by_header None is = absurd (other (ap Err is))
    by_header (Some header) is = here

pub not_memory : (judged : Result Judged BetweenNo) → judged ≡ Err BadHeader → judged ≢ Err Memory
not_memory judged is other = cc
