-- One request, and one round of the session's loop, over three logs.
use Rattle.std.proofs.Common.{◌≡◌, ◌⊎◌, Option, Result, sym, subst}
use Rattle.rev_front.specs.Passes.{Authored}
use Rattle.kube_meta.specs.declared.resources.Resource.{Resource}
use Rattle.kube_meta.specs.declared.resources.Resource.TheVariants.{Pods, ConfigMaps, Deployments}
use Rattle.http_read.specs.declared.request.Req.{Req}
use Rattle.sess_reply.specs.declared.broken.Broken.{Broken}
use Rattle.sess_turns.specs.Streams.{Outside}
use Rattle.sess_turns.specs.declared.ends.WatchEnd.{WatchEnd}
use Rattle.sess_serve.specs.Each.{Strand, strands, resource_of}
use Rattle.sess_serve.specs.EachServing.{OnlyOf, AnsweredByOne}
use Rattle.sess_serve.specs.Serving.{Answered, account_of}

pub only-of : (a b c : Strand) (asked : Resource) → (Pods ≡ asked) ⊎ (a.before ≡ a.after) → (ConfigMaps ≡ asked) ⊎ (b.before ≡ b.after) → (Deployments ≡ asked) ⊎ (c.before ≡ c.after)
    → OnlyOf (strands a b c) asked
only-of a b c asked x y z Pods = x
only-of a b c asked x y z ConfigMaps = y
only-of a b c asked x y z Deployments = z

pub answered-by : (all : Resource → Strand) (req : Req) (outside : Outside) (came : Result (Option WatchEnd) Broken) (r : Resource) (did did_then : Authored) → resource_of req ≡ r
    → Answered (all r).terms (all r).whole (account_of (all r).before did) req outside (account_of (all r).after did_then) came → OnlyOf all r → AnsweredByOne all req outside came
answered-by all req outside came r did did_then is answered only = record {
  did = did;
  did_then = did_then;
  answered = subst (λ x. Answered (all x).terms (all x).whole (account_of (all x).before did) req outside (account_of (all x).after did_then) came) (sym is) answered;
  only = subst (OnlyOf all) (sym is) only;
}
