use Rattle.std.proofs.Common.{◌≡◌, ℕ, ap, sym, subst, ◌∙◌}
use Rattle.cache_core.specs.Caches.{CacheData, IsCacheOf, log_at}
use Rattle.cache_core.proofs.FeedLemmas.{fed_by, come_stands, come_ended, told_ended, told_to}
use Rattle.cache_core.proofs.cache.Cache.apply.Goals as goal

pub follow-requires : goal.follow-requires
follow-requires c = (
  c.requires.0,
  (c.args.polled.now.upto, fed_by c.requires.0 c.args.self.now c.args.polled.now c.deref.result.now (ap (λ p. p.revisions) (sym c.polled.view_is) ∙ sym c.deref.ensures.value) c.requires.1),
)

pub returns-in_err-follow-clause-stands : goal.returns-in_err-follow-clause-stands
returns-in_err-follow-clause-stands c = λ log feeds.
    let fed = fed_by log c.args.self.now c.args.polled.now c.deref.result.now (ap (λ p. p.revisions) (sym c.polled.view_is) ∙ sym c.deref.ensures.value) feeds in
    let come = c.follow.ensures.came log c.args.polled.now.upto fed in
    come_stands log c.args.self.now c.follow.new.cache c.args.fresh.now.items c.follow.new.fresh.items come.0 c.args.polled.now.upto come.1

pub returns-in_err-follow-clause-told : goal.returns-in_err-follow-clause-told
returns-in_err-follow-clause-told c = λ log feeds.
    let fed = fed_by log c.args.self.now c.args.polled.now c.deref.result.now (ap (λ p. p.revisions) (sym c.polled.view_is) ∙ sym c.deref.ensures.value) feeds in
    (c.follow.ensures.came log c.args.polled.now.upto fed).1.told_is

pub returns-in_err-follow-clause-onward : goal.returns-in_err-follow-clause-onward
returns-in_err-follow-clause-onward c =
    let fed = fed_by c.requires.0 c.args.self.now c.args.polled.now c.deref.result.now (ap (λ p. p.revisions) (sym c.polled.view_is) ∙ sym c.deref.ensures.value) c.requires.1 in
    let come = c.follow.ensures.came c.requires.0 c.args.polled.now.upto fed in
    (come.1.onward, come.1.fed.onward)

pub returns-clause-stands : goal.returns-clause-stands
returns-clause-stands c = λ log feeds.
    let upto = c.args.polled.now.upto in
    let fed = fed_by log c.args.self.now c.args.polled.now c.deref.result.now (ap (λ p. p.revisions) (sym c.polled.view_is) ∙ sym c.deref.ensures.value) feeds in
    let whole : IsCacheOf (log_at log upto) (record c.follow.new.cache { end = upto }) = come_ended log c.follow.new.cache upto (c.in_ok-follow.ensures.done log upto fed) in
    let found : CacheData = record { resource = c.self.inside.resource; base = c.self.inside.base; end = c.self.inside.end; time = c.self.inside.time; rows = c.self.inside.tree; ring = c.self.inside.ring } in
    let same : c.follow.new.cache ≡ found = sym c.self.view_is in
    subst (λ (u : ℕ). IsCacheOf (log_at log u) (record found { end = u })) (ap (λ p. p.upto) (sym c.polled.view_is))
    (subst (λ (d : CacheData). IsCacheOf (log_at log upto) (record d { end = upto })) same whole)

pub returns-clause-told : goal.returns-clause-told
returns-clause-told c = λ log feeds.
    let upto = c.args.polled.now.upto in
    let fed = fed_by log c.args.self.now c.args.polled.now c.deref.result.now (ap (λ p. p.revisions) (sym c.polled.view_is) ∙ sym c.deref.ensures.value) feeds in
    let come = c.follow.ensures.came log upto fed in
    let told = told_ended log c.args.self.now c.follow.new.cache c.args.fresh.now.items c.follow.new.fresh.items come.0 upto c.follow.ensures.keeps.stays.resource come.1 (c.in_ok-follow.ensures.done log upto fed) in
    told_to c.args.fresh.now.items c.follow.new.fresh.items log c.args.self.now.resource c.args.self.now.end upto c.polled.inside.upto (ap (λ p. p.upto) (sym c.polled.view_is)) told
