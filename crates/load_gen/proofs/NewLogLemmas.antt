-- A session of a client of a new log, from what is proved of a session of any client.
use Rattle.std.proofs.Common.{◌≡◌, subst, ap, ◌∙◌, Bool, Option, Some, ℕ, List}
use Rattle.std.specs.Prelude.{false, true, []}
use Rattle.kube_meta.specs.Rows.{RowData}
use Rattle.rev_front.specs.Passes.{Pass, empty_log, pass_from}
use Rattle.rev_log.specs.Changes.{RevisionData}
use Rattle.up_api.specs.declared.settings.Settings.{Settings}
use Rattle.client_api.specs.Facts.{Facts, all_served}
use Rattle.client_api.specs.declared.resources.Resources.{Resources}
use Rattle.local_client.specs.CachedLogs.{CachedLogData, IsNewLog, KnowsWhole, window_of}
use Rattle.sess_serve.specs.Ends.{Traffic}
use Rattle.sess_serve.specs.Session.{IsSession}
use Rattle.sess_serve.specs.declared.ends.SessionEnd.{SessionEnd}
use Rattle.sess_turns.specs.Terms.{Terms, terms_of}
use Rattle.sess_serve.specs.NewLogs.{new_pass, terms}

-- of a log that is known whole nothing is left to be asked
known-whole : (t : Terms) (W : Type 0) (p : Pass RevisionData) (traffic : Traffic) (q : Pass RevisionData) (how : SessionEnd) →
    W → IsSession t W p traffic q how → IsSession t (Unit {0}) p traffic q how
known-whole t W p traffic q how whole s = record {
  exchanges = s.exchanges;
  last = s.last;
  rest = s.rest;
  reads = s.reads;
  run = s.run;
  knows = s.knows;
  sole = λ _. s.sole whole;
  readings = s.readings;
  ended = s.ended;
}

-- what such a client's session is told once
terms-are : (base : List RowData) (mirror : Bool) (facts : Facts) (settings : Settings) →
    base ≡ [] → mirror ≡ false → facts.window ≡ settings.window → facts.sole_history ≡ Some settings.history → facts.resources ≡ all_served →
    facts.operable ≡ true → terms_of base mirror facts settings ≡ terms settings
terms-are base mirror facts settings base-is own window-is alone-is all-is takes =
    ap (λ (b : List RowData). terms_of b mirror facts settings) base-is
    ∙ ap (λ (m : Bool). terms_of [] m facts settings) own
    ∙ ap (λ (w : ℕ). record { base = []; mirror = false; window = w; sole_history = facts.sole_history; resources = facts.resources; operable = facts.operable; settings = settings }) window-is
    ∙ ap (λ (a : Option ℕ). record { base = []; mirror = false; window = settings.window; sole_history = a; resources = facts.resources; operable = facts.operable; settings = settings }) alone-is
    ∙ ap (λ (r : Resources). record { base = []; mirror = false; window = settings.window; sole_history = Some settings.history; resources = r; operable = facts.operable; settings = settings }) all-is
    ∙ ap (λ (o : Bool). record { base = []; mirror = false; window = settings.window; sole_history = Some settings.history; resources = all_served; operable = o; settings = settings }) takes

-- a session of a client of a new log, in the settings that it was made with
pub of_new_log : (first : ℕ) (base : List RowData) (mirror : Bool) (facts : Facts) (log : CachedLogData) (settings : Settings)
    (traffic : Traffic) (q : Pass RevisionData) (how : SessionEnd) → first ≡ 1 → base ≡ [] → mirror ≡ false →
    facts.window ≡ window_of log → facts.sole_history ≡ Some log.store.history → facts.resources ≡ all_served → facts.operable ≡ true → IsNewLog first settings log →
    IsSession (terms_of base mirror facts settings) (KnowsWhole log) log.pass traffic q how →
    IsSession (terms settings) (Unit {0}) (new_pass log.pass.seat) traffic q how
of_new_log first base mirror facts log settings traffic q how first-is base-is own window-is alone-is all-is takes new s =
    let terms-is = terms-are base mirror facts settings base-is own (window-is ∙ new.window_is)
    (alone-is ∙ ap (λ (h : ℕ). Some h) new.history_is) all-is takes in
    let pass-is : log.pass ≡ new_pass log.pass.seat =
    new.pass_is ∙ ap (λ (n : ℕ). pass_from (empty_log n) log.pass.seat) first-is in
    let in-terms : IsSession (terms settings) (KnowsWhole log) log.pass traffic q how =
    subst (λ (t : Terms). IsSession t (KnowsWhole log) log.pass traffic q how) terms-is s in
    let from-new : IsSession (terms settings) (KnowsWhole log) (new_pass log.pass.seat) traffic q how =
    subst (λ (p : Pass RevisionData). IsSession (terms settings) (KnowsWhole log) p traffic q how) pass-is in-terms in
    known-whole (terms settings) (KnowsWhole log) (new_pass log.pass.seat) traffic q how new.whole from-new
