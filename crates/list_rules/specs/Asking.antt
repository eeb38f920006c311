-- What the parameters of a list ask for: the first fault, or else the page.
use Rattle.std.specs.Prelude.{◌≡◌, ℕ, Bool, true, false, List, Option, None, Some, Result, Ok, Err, codes}
use Rattle.select_all.specs.declared.selection.Meaning.TheVariants.{Exact}
use Rattle.select_all.specs.declared.selection.Selection.{Selection}
use Rattle.list_rules.specs.declared.ask.ListAsk.{ListAsk}
use Rattle.list_rules.specs.declared.refusal.AskNo.{AskNo}
use Rattle.list_rules.specs.declared.refusal.AskNo.TheVariants.{BadContinue, Memory}
use Rattle.list_rules.specs.declared.refusal.TokenNo.{TokenNo}
use Rattle.list_rules.specs.declared.refusal.TokenNo.TheVariants as token_no
use Rattle.list_rules.specs.declared.options.Options.{Options}
use Rattle.list_rules.specs.Options.{QueryPairs, given, parameter_text, options_of, options_fault, means, page_limit}
use Rattle.list_rules.specs.Tokens.{token_read}

-- what a list with no token asks for: its first page, at a revision of the meaning that its options have
abbrev pub first_page : Selection → Options → List ℕ → List ℕ → ListAsk
first_page s o label field = record {
  selection = s;
  meaning = means o.matching o.revision (page_limit o.limit);
  limit = page_limit o.limit;
  after = None;
  label_text = label;
  field_text = field;
}

-- how the refusal of a token is told
abbrev pub refused_token : TokenNo → AskNo
refused_token token_no.Memory = Memory
refused_token fault = BadContinue fault

-- what a list with a token asks for: the page behind the token's key, at the token's revision alone
abbrev pub later_page : Selection → Options → List ℕ → List ℕ → Result (ℕ × List ℕ) TokenNo → Result ListAsk AskNo
later_page s o label field (Err fault) = Err (refused_token fault)
later_page s o label field (Ok place) = Ok (record {
  selection = s;
  meaning = Exact place.0;
  limit = page_limit o.limit;
  after = Some place.1;
  label_text = label;
  field_text = field;
})

-- which page a list asks for: the one that its `continue` token names, or the first where it has none
abbrev pub page_by : Selection → Options → List ℕ → List ℕ → Option (List ℕ) → Result ListAsk AskNo
page_by s o label field None = Ok (first_page s o label field)
page_by s o label field (Some token) = later_page s o label field (token_read token s label field)

-- what is answered to options that may have a fault: it comes before all that is said of the token
abbrev pub unless_fault : Option AskNo → Result ListAsk AskNo → Result ListAsk AskNo
unless_fault (Some fault) answer = Err fault
unless_fault None answer = answer

-- what a query asks for as a list of this selection, or the first reason for which it is refused
abbrev pub ask_of : Selection → QueryPairs → Result ListAsk AskNo
ask_of s pairs =
    unless_fault (options_fault (options_of pairs))
    (page_by s (options_of pairs) (parameter_text (codes "labelSelector") pairs) (parameter_text (codes "fieldSelector") pairs) (given (codes "continue") pairs))

-- want of memory is told by itself, and never as a fault of the token
abbrev pub wraps_memory : AskNo → Bool
wraps_memory (BadContinue token_no.Memory) = true
wraps_memory fault = false

-- What was made is what the parameters ask for; what was refused is the first fault, unless memory ran out.
abbrev pub Asks : Result ListAsk AskNo → Result ListAsk AskNo → Type 0
Asks (Ok ask) asked = asked ≡ Ok ask
Asks (Err Memory) asked = Unit {0}
Asks (Err fault) asked = asked ≡ Err fault
