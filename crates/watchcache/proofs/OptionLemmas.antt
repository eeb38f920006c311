-- A command with one more option, and what is read of its words.
use Rattle.std.proofs.Common.{◌≡◌, ◌∙◌, sym, ap, subst, inl, inr, List, [], Option, Some, Ok, Err}
use Rattle.std.specs.Prelude.{Result}
use Rattle.clap.specs.Words.{App, Row, Text, fault_of, first_of, matches_of, with_rule}
use Rattle.watchcache.specs.declared.asked.Fault.{Fault}
use Rattle.watchcache.specs.declared.asked.OptionName.TheVariants.{Namespace}
use Rattle.watchcache.specs.declared.asked.ServeAsk.{ServeAsk}
use Rattle.watchcache.specs.declared.asked.ServeOptions.{ServeOptions}
use Rattle.watchcache.specs.declared.asked.WordsNo.{WordsNo}
use Rattle.watchcache.specs.declared.asked.WordsNo.TheVariants.{Bad, Memory}
use Rattle.watchcache.specs.Options.{WordsGive, HasFault, ReadsOptions, and_then, ask_named, serve_ask_of, ask_with, namespace_named, namespace_given, option, option_text, serve_of, some}

pub more : (name : Text) (a b c : App) → a ≡ with_rule b (option name) → b ≡ c → a ≡ with_rule c (option name)
more name a b c e f = e ∙ ap (λ (x : App). with_rule x (option name)) f

-- a fault that clap found is the refusal of the command
pub refused : {A : Type 0} (command app : App) (options_of : List Row → Result A Fault) (words : List Text) (no : WordsNo) →
    app ≡ command → HasFault app words no → ReadsOptions command options_of words (Err no)
refused command app options_of words (Bad fault) is h = inl (h.0, λ e. h.1 (ap (λ (a : App). fault_of a words) is ∙ e))
refused command app options_of words Memory is h = tt

-- what clap finds no fault with is read as its options say
pub read : {A : Type 0} (command app : App) (options_of : List Row → Result A Fault) (words : List Text) (rows : List Row) (options : A) →
    app ≡ command → fault_of app words ≡ [] → rows ≡ matches_of app words → options_of rows ≡ Ok options →
    ReadsOptions command options_of words (Ok options)
read command app options_of words rows options is faultless matched given = (
  sym (ap (λ (a : App). fault_of a words) is) ∙ faultless,
  sym (ap options_of (matched ∙ ap (λ (a : App). matches_of a words) is)) ∙ given,
)

-- and what its options are at fault with is refused for that
pub at_fault : {A : Type 0} (command app : App) (options_of : List Row → Result A Fault) (words : List Text) (rows : List Row) (fault : Fault) →
    app ≡ command → fault_of app words ≡ [] → rows ≡ matches_of app words → options_of rows ≡ Err fault →
    ReadsOptions command options_of words (Err (Bad fault))
at_fault command app options_of words rows fault is faultless matched given = inr (
  sym (ap (λ (a : App). fault_of a words) is) ∙ faultless,
  sym (ap options_of (matched ∙ ap (λ (a : App). matches_of a words) is)) ∙ given,
)

-- a text that is given, and namespace_named so, is namespace_named so
pub given_some : (text : Text) (given : Option Text) (name : Result Text WordsNo) (result : Result (Option Text) WordsNo) → Some text ≡ given →
    WordsGive (namespace_named text) name → result ≡ some name → WordsGive (namespace_given given) result
given_some text given (Ok n) result is h same =
    subst (λ (r : Result (Option Text) WordsNo). WordsGive (namespace_given given) r) (sym same) (ap namespace_given (sym is) ∙ ap (and_then (λ m. Ok (Some m))) h)
given_some text given (Err (Bad fault)) result is h same =
    subst (λ (r : Result (Option Text) WordsNo). WordsGive (namespace_given given) r) (sym same) (ap namespace_given (sym is) ∙ ap (and_then (λ m. Ok (Some m))) h)
given_some text given (Err Memory) result is h same =
    subst (λ (r : Result (Option Text) WordsNo). WordsGive (namespace_given given) r) (sym same) tt

-- options with a namespace that is namespace_named so ask for a server
pub asked : (given : Option Text) (options : ServeOptions) (name : Option Text) → namespace_given given ≡ Ok name →
    ask_with given options ≡ Ok (record { options = options; namespace = name })
asked given options name is = ap (and_then (ask_named options)) is

-- and with one that is at fault they are refused
pub refused_name : (given : Option Text) (options : ServeOptions) (no : WordsNo) → WordsGive {A = Option Text} (namespace_given given) (Err no) →
    WordsGive {A = ServeAsk} (ask_with given options) (Err no)
refused_name given options (Bad fault) is = ap (and_then (ask_named options)) is
refused_name given options Memory is = tt

-- what is asked for by options that clap finds no fault with
pub gives : (command app : App) (words : List Text) (rows : List Row) (options : ServeOptions) (result : Result ServeAsk WordsNo) →
    app ≡ command → fault_of app words ≡ [] → rows ≡ matches_of app words → serve_of rows ≡ Ok options →
    WordsGive (ask_with (first_of (option_text Namespace) rows) options) result → ReadsOptions command serve_ask_of words result
gives command app words rows options (Ok ask) is faultless matched given h =
    read command app serve_ask_of words rows ask is faultless matched (ap (and_then (ask_with (first_of (option_text Namespace) rows))) given ∙ h)
gives command app words rows options (Err (Bad fault)) is faultless matched given h =
    at_fault command app serve_ask_of words rows fault is faultless matched (ap (and_then (ask_with (first_of (option_text Namespace) rows))) given ∙ h)
gives command app words rows options (Err Memory) is faultless matched given h = tt

-- and options that are at fault are refused for that
pub refuses : (command app : App) (words : List Text) (rows : List Row) (fault : Fault) →
    app ≡ command → fault_of app words ≡ [] → rows ≡ matches_of app words → serve_of rows ≡ Err fault →
    ReadsOptions command serve_ask_of words (Err (Bad fault))
refuses command app words rows fault is faultless matched given =
    at_fault command app serve_ask_of words rows fault is faultless matched (ap (and_then (ask_with (first_of (option_text Namespace) rows))) given)
