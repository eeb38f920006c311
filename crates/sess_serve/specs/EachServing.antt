-- Steps of private functions over three logs: what one request, and one round of the session's loop, comes to.
use Rattle.std.specs.Prelude.{◌≡◌, ◌⊎◌, ℕ, List, Option, Result}
use Rattle.rev_front.specs.Passes.{Authored}
use Rattle.kube_meta.specs.declared.resources.Resource.{Resource}
use Rattle.http_read.specs.declared.request.Req.{Req}
use Rattle.sess_reply.specs.declared.broken.Broken.{Broken}
use Rattle.sess_turns.specs.Streams.{Outside}
use Rattle.sess_turns.specs.declared.ends.WatchEnd.{WatchEnd}
use Rattle.sess_serve.specs.Each.{Strand, resource_of}
use Rattle.sess_serve.specs.Serving.{Answered, Ends, IsRound, account_of}
use Rattle.sess_serve.specs.declared.ends.SessionEnd.{SessionEnd}

-- what is known of no other log has changed
abbrev pub OnlyOf : (Resource → Strand) → Resource → Type 0
OnlyOf strands_of resource = (other : Resource) → (other ≡ resource) ⊎ ((strands_of other).before ≡ (strands_of other).after)

-- a request is answered over the log of its resource
pub record AnsweredByOne (strands_of : Resource → Strand) (req : Req) (outside : Outside) (came : Result (Option WatchEnd) Broken) : Type 0 where
  pub did : Authored
  pub did_then : Authored
  pub answered : Answered (strands_of (resource_of req)).terms (strands_of (resource_of req)).whole
      (account_of (strands_of (resource_of req)).before did) req outside (account_of (strands_of (resource_of req)).after did_then) came
  pub only : OnlyOf strands_of (resource_of req)

-- one round over the log of a resource, of which its request is, if one was read
pub record IsEachRound (strands_of : Resource → Strand) (kept kept_then : List ℕ) (old new : Ends) (read_fault write_fault : Type 0) (came : Option SessionEnd) : Type 0 where
  pub resource : Resource
  pub did : Authored
  pub did_then : Authored
  pub round : IsRound (λ req. resource_of req ≡ resource) (strands_of resource).terms (strands_of resource).whole
      (account_of (strands_of resource).before did) kept kept_then old new read_fault write_fault
      (account_of (strands_of resource).after did_then) came
  pub only : OnlyOf strands_of resource
