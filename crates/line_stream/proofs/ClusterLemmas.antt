-- Requests to a cluster, joined from pieces.
use Rattle.std.proofs.Common.{◌≡◌, ℕ, List, [], ◌++◌, None, Some, append_assoc, append-nil}
use Rattle.std.specs.Prelude.{codes}
use Rattle.line_stream.specs.ClusterRequests.{get_request, path_below}

regroup_some : (g b s n t p q f z : List ℕ) →
    g ++ (b ++ (s ++ (n ++ (t ++ (p ++ (q ++ (f ++ (z ++ [])))))))) ≡ g ++ (((b ++ (s ++ (n ++ (t ++ p)))) ++ (q ++ f)) ++ z)
regroup_some g b s n t p q f z = simp (append_assoc, append-nil)

regroup_all : (g b t p q f z : List ℕ) → g ++ (b ++ (t ++ (p ++ (q ++ (f ++ (z ++ [])))))) ≡ g ++ (((b ++ (t ++ p)) ++ (q ++ f)) ++ z)
regroup_all g b t p q f z = simp (append_assoc, append-nil)

abbrev tail : List ℕ
tail = codes " HTTP/1.1\r\nHost: localhost\r\nAccept: application/json\r\n\r\n"

pub some-below : (base plural ns form b n p f : List ℕ) → b ≡ base → n ≡ ns → p ≡ plural → f ≡ form →
    codes "GET " ++ (b ++ (codes "/namespaces/" ++ (n ++ (codes "/" ++ (p ++ (codes "?" ++ (f ++ (tail ++ []))))))))
    ≡ get_request (path_below base plural (Some ns) ++ (codes "?" ++ form))
some-below base plural ns form b n p f base_is ns_is plural_is form_is =
    rw (base_is, ns_is, plural_is, form_is) (regroup_some (codes "GET ") base (codes "/namespaces/") ns (codes "/") plural (codes "?") form tail)

pub all-below : (base plural form b p f : List ℕ) → b ≡ base → p ≡ plural → f ≡ form →
    codes "GET " ++ (b ++ (codes "/" ++ (p ++ (codes "?" ++ (f ++ (tail ++ [])))))) ≡ get_request (path_below base plural None ++ (codes "?" ++ form))
all-below base plural form b p f base_is plural_is form_is =
    rw (base_is, plural_is, form_is) (regroup_all (codes "GET ") base (codes "/") plural (codes "?") form tail)
