-- The option table of lists and gets: `resourceVersion`, `resourceVersionMatch`, `limit`, `continue` and `sendInitialEvents`, as the Kubernetes API concepts name them ("Resource versions", "Retrieving large results sets in chunks").
use Rattle.std.specs.Prelude.{ℕ, Bool, true, false, not, ◌&&◌, ◌==◌, List, [], ◌∷◌, Option, None, Some, Result, Ok, Err, unwrap_or, codes, bytes_eq, IsTrue, if◌then◌else◌}
use Rattle.kube_meta.specs.declared.revisions.RevNo.{RevNo}
use Rattle.kube_meta.specs.Revisions.{revision_of}
use Rattle.select_all.specs.declared.selection.Meaning.{Meaning}
use Rattle.select_all.specs.declared.selection.Meaning.TheVariants.{MostRecent, Any, NotOlder, Exact}
use Rattle.http_read.specs.Queries.{first_value, unless_empty}
use Rattle.list_rules.specs.declared.options.Number.{Number}
use Rattle.list_rules.specs.declared.options.Number.TheVariants.{Unset, Refused, Is}
use Rattle.list_rules.specs.declared.options.Match.{Match}
use Rattle.list_rules.specs.declared.options.Match.TheVariants.{Absent, Exactly, NotOlderThan, Other}
use Rattle.list_rules.specs.declared.options.Options.{Options}
use Rattle.list_rules.specs.declared.refusal.AskNo.{AskNo}
use Rattle.list_rules.specs.declared.refusal.AskNo.TheVariants.{BadRevision, BadMatch, MatchNeedsRevision, ExactZero, MatchWithContinue, RevisionWithContinue, InitialEventsOnList, BadLimit}

-- the pairs of a query
abbrev pub QueryPairs : Type 0
QueryPairs = List (List ℕ × List ℕ)

-- what a parameter says; an empty value counts as unset
abbrev pub given : List ℕ → QueryPairs → Option (List ℕ)
given name pairs = unless_empty (first_value name pairs)

-- what a parameter says, as a text that is empty where it is unset
abbrev pub parameter_text : List ℕ → QueryPairs → List ℕ
parameter_text name pairs = unwrap_or (given name pairs) []

-- the parameter has a value; whether an empty one counts is decided where it is looked up
abbrev pub is_set : Option (List ℕ) → Bool
is_set None = false
is_set (Some text) = true

-- ---- the options as they are given

-- a number is written as a revision is
abbrev pub number_read : Result ℕ RevNo → Number
number_read (Ok n) = Is n
number_read (Err fault) = Refused

-- what a parameter of a number says: nothing, a number, or a text that is none
abbrev pub parameter_number : Option (List ℕ) → Number
parameter_number None = Unset
parameter_number (Some text) = number_read (revision_of text)

-- what `resourceVersionMatch` says, where capitals count; any text but the API's two is `Other`, which is refused
abbrev pub match_of : Option (List ℕ) → Match
match_of None = Absent
match_of (Some text) =
    if bytes_eq text (codes "Exact") then Exactly else
    (if bytes_eq text (codes "NotOlderThan") then NotOlderThan else Other)

-- the options of a list, as its query gives them; `sendInitialEvents` is set also where it is empty
abbrev pub options_of : QueryPairs → Options
options_of pairs = record {
  revision = parameter_number (given (codes "resourceVersion") pairs);
  matching = match_of (given (codes "resourceVersionMatch") pairs);
  limit = parameter_number (given (codes "limit") pairs);
  continued = is_set (given (codes "continue") pairs);
  initial_events = is_set (first_value (codes "sendInitialEvents") pairs);
}

-- ---- what may be said of one

-- the parameter isn't given, or its text is empty
abbrev pub is_unset : Number → Bool
is_unset Unset = true
is_unset Refused = false
is_unset (Is n) = false

-- the parameter is given, and its text is no number
abbrev pub is_refused : Number → Bool
is_refused Unset = false
is_refused Refused = true
is_refused (Is n) = false

-- the parameter says 0, which as a revision stands for any
abbrev pub is_zero : Number → Bool
is_zero Unset = false
is_zero Refused = false
is_zero (Is n) = n == 0

-- no match is asked for, so that the revision and the limit decide how the revision is meant
abbrev pub is_absent : Match → Bool
is_absent Absent = true
is_absent Exactly = false
is_absent NotOlderThan = false
is_absent Other = false

-- the match asks for the given revision alone
abbrev pub is_exactly : Match → Bool
is_exactly Absent = false
is_exactly Exactly = true
is_exactly NotOlderThan = false
is_exactly Other = false

-- the match is none of those that the API has
abbrev pub is_other : Match → Bool
is_other Absent = false
is_other Exactly = false
is_other NotOlderThan = false
is_other Other = true

-- ---- the faults, each with exactly where it holds

-- the first of the refusals whose condition holds; nothing where none does
abbrev pub first_of : List (Bool × AskNo) → Option AskNo
first_of [] = None
first_of (row ∷ rows) = if row.0 then Some row.1 else first_of rows

-- each reason for which options are refused, beside where it holds; they are told in this order
abbrev pub faults : Options → List (Bool × AskNo)
faults o =
    (is_refused o.revision, BadRevision)
    ∷ (is_other o.matching, BadMatch)
    ∷ (not (is_absent o.matching) && (not o.continued && is_unset o.revision), MatchNeedsRevision)
    ∷ (is_exactly o.matching && (not o.continued && is_zero o.revision), ExactZero)
    ∷ (not (is_absent o.matching) && o.continued, MatchWithContinue)
    ∷ (o.continued && (not (is_unset o.revision) && not (is_zero o.revision)), RevisionWithContinue)
    ∷ (o.initial_events, InitialEventsOnList)
    ∷ (is_refused o.limit, BadLimit)
    ∷ []

-- why options are refused, by the first reason that holds; nothing where they are accepted
abbrev pub options_fault : Options → Option AskNo
options_fault o = first_of (faults o)

-- ---- the meaning, where there is no fault

-- the most rows of a page; 0, as where none is given, is no limit
abbrev pub page_limit : Number → ℕ
page_limit Unset = 0
page_limit Refused = 0
page_limit (Is n) = n

-- a revision that is asked for with no match: 0 is any; with a limit it is that one, and without one it may be newer
abbrev pub of_revision : ℕ → ℕ → Meaning
of_revision r limit = if r == 0 then Any else (if limit == 0 then NotOlder r else Exact r)

-- match, revision and limit, where there is no `continue`; a row that a fault takes is `MostRecent`
abbrev pub means : Match → Number → ℕ → Meaning
means Absent Unset limit = MostRecent
means Absent (Is r) limit = of_revision r limit
means Exactly (Is r) limit = Exact r
means NotOlderThan (Is r) limit = of_revision r 0
means given_match number limit = MostRecent

-- at which revision a get may be answered: its `resourceVersion` alone speaks
abbrev pub of_get : Number → Result Meaning AskNo
of_get Unset = Ok MostRecent
of_get Refused = Err BadRevision
of_get (Is r) = Ok (of_revision r 0)

abbrev pub is_never_exact : Meaning → Bool
is_never_exact MostRecent = true
is_never_exact Any = true
is_never_exact (NotOlder r) = true
is_never_exact (Exact r) = false

-- no revision is the only one that will do
abbrev pub IsNeverExact : Meaning → Type 0
IsNeverExact meaning = IsTrue (is_never_exact meaning)
