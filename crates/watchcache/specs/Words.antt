-- What the words of a command line ask for.
use Rattle.std.specs.Prelude.{◌≡◌, ℕ, ◌≤◌, ◌^◌, List, [], ◌∷◌, Bool, true, false, ◌&&◌, ◌||◌, not, Result, Ok, Err, IfSome, codes, ⊤}
use Rattle.std.specs.List.{list_any}
use Rattle.std.specs.Str.{bytes_eq}
use Rattle.watchcache.specs.declared.asked.Asked.{Asked}
use Rattle.watchcache.specs.declared.asked.Asked.TheVariants.{Help, Version, Session, Serve, Load, Check}
use Rattle.watchcache.specs.declared.asked.Fault.{Fault}
use Rattle.watchcache.specs.declared.asked.Fault.TheVariants.{NoCommand}
use Rattle.kube_meta.specs.Names.{IsNamespace}
use Rattle.watchcache.specs.declared.asked.ServeAsk.{ServeAsk}
use Rattle.watchcache.specs.declared.asked.ServeOptions.{ServeOptions}
use Rattle.watchcache.specs.declared.asked.WordsNo.{WordsNo}
use Rattle.watchcache.specs.declared.asked.WordsNo.TheVariants.{Bad, Memory}
use Rattle.watchcache.specs.Options.{ReadsSettings, ReadsServe, ReadsLoad, ReadsCheck}
use Rattle.up_api.specs.Settings.{AreInRange}

-- one of the words is this one
abbrev pub has_word : List ℕ → List (List ℕ) → Bool
has_word word words = list_any (λ w. bytes_eq w word) words

-- the first of the words is this one
abbrev pub begins_with : List ℕ → List (List ℕ) → Bool
begins_with word [] = false
begins_with word (first ∷ others) = bytes_eq first word

-- help is asked for, by `--help` or `-h` at any place
abbrev pub asks_help : List (List ℕ) → Bool
asks_help words = has_word (codes "--help") words || has_word (codes "-h") words

-- the version is asked for, by `--version` at any place, and help isn't
abbrev pub asks_version : List (List ℕ) → Bool
asks_version words = not (asks_help words) && has_word (codes "--version") words

-- neither help nor the version is asked for
abbrev pub asks_other : List (List ℕ) → Bool
asks_other words = not (asks_help words) && not (has_word (codes "--version") words)

-- the first where the test holds, and else the second
abbrev pub Chosen : Bool → Type 0 → Type 0 → Type 0
Chosen true here there = here
Chosen false here there = there

-- what is wrong with words that ask for neither: by the rules of the command that the first word names, or it names
-- none
abbrev pub IsAtFault : List (List ℕ) → Fault → Type 0
IsAtFault words fault =
    Chosen (begins_with (codes "session") words) (ReadsSettings words (Err (Bad fault)))
    (Chosen (begins_with (codes "serve") words) (ReadsServe words (Err (Bad fault)))
    (Chosen (begins_with (codes "load") words) (ReadsLoad words (Err (Bad fault)))
    (Chosen (begins_with (codes "check") words) (ReadsCheck words (Err (Bad fault)))
    (fault ≡ NoCommand))))

-- what the words ask for, or why they ask for nothing; a command is its word, and then options as clap takes them, with
-- numbers in their ranges
abbrev pub ReadsWords : List (List ℕ) → Result Asked WordsNo → Type 0
ReadsWords words (Ok Help) = asks_help words ≡ true
ReadsWords words (Ok Version) = asks_version words ≡ true
ReadsWords words (Ok (Session settings)) =
    (asks_other words ≡ true) × (begins_with (codes "session") words ≡ true) × ReadsSettings words (Ok settings)
ReadsWords words (Ok (Serve ask)) =
    (asks_other words ≡ true) × (begins_with (codes "serve") words ≡ true) × ReadsServe words (Ok ask)
ReadsWords words (Ok (Load options)) =
    (asks_other words ≡ true) × (begins_with (codes "load") words ≡ true) × ReadsLoad words (Ok options)
ReadsWords words (Ok Check) =
    (asks_other words ≡ true) × (begins_with (codes "check") words ≡ true) × ReadsCheck words (Ok tt)
ReadsWords words (Err (Bad fault)) = (asks_other words ≡ true) × IsAtFault words fault
ReadsWords words (Err Memory) = ⊤

-- a server is set within its ranges
pub record AreServed (options : ServeOptions) : Type 0 where
  pub workers : (1 ≤ options.workers) × (options.workers ≤ 64)
  pub open_at_once : (1 ≤ options.open) × (options.open ≤ 65536)
  pub connections : options.connections ≤ 2 ^ 62
  pub peer : IfSome options.peer (λ port. (1 ≤ port) × (port ≤ 65535))
  pub cluster : IfSome options.cluster (λ port. (1 ≤ port) × (port ≤ 65535))
  pub first : (1 ≤ options.first) × (options.first ≤ 2 ^ 62)
  pub history_mib : (1 ≤ options.history_mib) × (options.history_mib ≤ 1048576)
  pub settings : AreInRange options.settings

-- a server is set within its ranges, and its namespace has a name of one
abbrev pub IsServeAsk : ServeAsk → Type 0
IsServeAsk ask = AreServed ask.options × IfSome ask.namespace IsNamespace

-- what is asked for is within its ranges
abbrev pub IsInRange : Asked → Type 0
IsInRange Help = ⊤
IsInRange Version = ⊤
IsInRange (Session settings) = AreInRange settings
IsInRange (Serve ask) = IsServeAsk ask
IsInRange (Load options) = (options.from ≤ 2 ^ 62) × (options.requests ≤ 100000)
IsInRange Check = ⊤
