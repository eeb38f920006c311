-- Where connections come from and go to.
use Rattle.std.specs.Prelude.{◌≡◌, ℕ, [], ◌∷◌}
use Rattle.std.specs.Net.Addr.{ipv4_octets, IsV4And}
use Rattle.std.specs.Net.Socket.{socket_ip, socket_port}
use Rattle.std.specs.declared.net.socket_addr.SocketAddr.{SocketAddr}

-- the address is 127.0.0.1, which no other machine reaches, at this port
abbrev pub IsLoopback : ℕ → SocketAddr → Type 0
IsLoopback port address =
    IsV4And (socket_ip address) (λ ip. ipv4_octets ip ≡ 127 ∷ 0 ∷ 0 ∷ 1 ∷ []) × (socket_port address ≡ port)
